-- All tracks of a select by series, of which one gives its next row or has ended.
use Rattle.std.proofs.Common.{◌≡◌, ◌≢◌, ◌↔◌, ℕ, zero, suc, ◌+◌, ◌<◌, ◌≤◌, Bool, true, false, List, [], ◌∷◌, ◌++◌, length, map, get_or, set, refl, ap, ap₂, subst, ◌∙◌, sym, arith, ◌⊎◌, inl, inr}
use Rattle.std.specs.Prelude.{flat_map}
use Rattle.std.specs.List.{AllByRecursion}
use Rattle.std.proofs.lemmas.Bool.{cases_lt}
use Rattle.std.proofs.lemmas.List.{get_or-map, length-map, get_or-set_same}
use Rattle.ak_base.specs.declared.point.Point.{Point}
use Rattle.ak_query.specs.declared.query.Kind.TheVariants as K
use Rattle.ak_rows.specs.Ahead.{lane_points, no_lane, IsApart, AreApart, IsLater, AreLater, IsInOrder, IsHad}
use Rattle.ak_rows.specs.Answers.{track_lines}
use Rattle.ak_rows.specs.Coming.{coming, AreInOrder, IsTaken}
use Rattle.ak_rows.specs.Lines.{Line}
use Rattle.ak_rows.specs.Picks.{HeadIs}
use Rattle.ak_rows.specs.Sorted.{turned}
use Rattle.ak_rows.specs.ToCome.{numbered, rising_of}
use Rattle.ak_rows.specs.Tracks.{no_lanes, contents, select_rows, AreElsewhere, AreAllApart, AreAllLater, AreAllInOrder, AreAllHad, IsTurned, HaveEnded, HavePassed}
use Rattle.ak_rows.specs.declared.points.Head.{Head}
use Rattle.ak_rows.specs.declared.points.Head.TheVariants.{Unasked, Ended, At}
use Rattle.ak_rows.specs.declared.points.Lane.{Lane}
use Rattle.ak_rows.specs.declared.row.Row.{Row}
use Rattle.ak_rows.proofs.Chosen.{row_none}
use Rattle.ak_rows.proofs.Lanes.{same_rest, each_later, apart_later, apart_later_one, apart_first, unasked_goes_on}
use Rattle.ak_rows.proofs.Merging.{all_if}
use Rattle.ak_rows.proofs.Taking.{all_mapped, all_unmapped}

-- ---- What stays later on

pub all_each_later : (P : ℕ → Type 0) (ts us : List (List Lane)) → AreAllLater ts us
    → AllByRecursion (λ (t : List Lane). AllByRecursion (λ (l : Lane). l.head ≢ Ended → P l.series) t) ts → AllByRecursion (λ (t : List Lane). AllByRecursion (λ (l : Lane). l.head ≢ Ended → P l.series) t) us
all_each_later P [] [] x all = tt
all_each_later P [] (u ∷ us) x all = absurd x
all_each_later P (t ∷ ts) [] x all = absurd x
all_each_later P (t ∷ ts) (u ∷ us) x all = (each_later P t u x.0 all.0, all_each_later P ts us x.1 all.1)

one_apart_later : (l : Lane) (ts us : List (List Lane)) → AreAllLater ts us → AllByRecursion (λ (t : List Lane). AllByRecursion (IsApart l) t) ts → AllByRecursion (λ (t : List Lane). AllByRecursion (IsApart l) t) us
one_apart_later l [] [] x all = tt
one_apart_later l [] (u ∷ us) x all = absurd x
one_apart_later l (t ∷ ts) [] x all = absurd x
one_apart_later l (t ∷ ts) (u ∷ us) x all = (apart_later_one l t u x.0 all.0, one_apart_later l ts us x.1 all.1)

elsewhere_later : (t u : List Lane) (ts us : List (List Lane)) → AreLater t u → AreAllLater ts us → AreElsewhere t ts → AreElsewhere u us
elsewhere_later [] [] ts us x y all = tt
elsewhere_later [] (m ∷ u) ts us x y all = absurd x
elsewhere_later (l ∷ t) [] ts us x y all = absurd x
elsewhere_later (l ∷ t) (m ∷ u) ts us x y all =
    (all_if (λ (v : List Lane). AllByRecursion (IsApart l) v) (λ (v : List Lane). AllByRecursion (IsApart m) v) (λ v far. apart_first l m v x.0 far) us (one_apart_later l ts us y all.0), elsewhere_later t u ts us x.1 y all.1)

pub all_apart_later : (ts us : List (List Lane)) → AreAllLater ts us → AreAllApart ts → AreAllApart us
all_apart_later [] [] x all = tt
all_apart_later [] (u ∷ us) x all = absurd x
all_apart_later (t ∷ ts) [] x all = absurd x
all_apart_later (t ∷ ts) (u ∷ us) x all = (apart_later t u x.0 all.0, elsewhere_later t u ts us x.0 x.1 all.1, all_apart_later ts us x.1 all.2)

ended_later : (t u : List Lane) → AreLater t u → HaveEnded t → HaveEnded u
ended_later [] [] x all = tt
ended_later [] (m ∷ u) x all = absurd x
ended_later (l ∷ t) [] x all = absurd x
ended_later (l ∷ t) (m ∷ u) x all = (x.0.1 all.0, ended_later t u x.1 all.1)

passed_at : (k : ℕ) (ts us : List (List Lane)) → AreAllLater ts us → HaveEnded (get_or ts k no_lanes) → HaveEnded (get_or us k no_lanes)
passed_at k [] [] x past = past
passed_at k [] (u ∷ us) x past = absurd x
passed_at k (t ∷ ts) [] x past = absurd x
passed_at zero (t ∷ ts) (u ∷ us) x past = ended_later t u x.0 past
passed_at (suc k) (t ∷ ts) (u ∷ us) x past = passed_at k ts us x.1 past

pub passed_later : (n : ℕ) (ts us : List (List Lane)) → AreAllLater ts us → HavePassed n ts → HavePassed n us
passed_later n ts us x past k less = passed_at k ts us x (past k less)

pub at_track : (P : List Lane → Type 0) (ts : List (List Lane)) (k : ℕ) → k < length ts → AllByRecursion P ts → P (get_or ts k no_lanes)
at_track P [] k within all = absurd (omega arith)
at_track P (t ∷ ts) zero within all = all.0
at_track P (t ∷ ts) (suc k) within all = at_track P ts k (omega arith) all.1

pub all_apart_at : (ts : List (List Lane)) (k : ℕ) → k < length ts → AreAllApart ts → AreApart (get_or ts k no_lanes)
all_apart_at [] k within all = absurd (omega arith)
all_apart_at (t ∷ ts) zero within all = all.0
all_apart_at (t ∷ ts) (suc k) within all = all_apart_at ts k (omega arith) all.2

-- ---- The contents of all tracks

module _ (points later : ℕ → List Point) where
  column : (m : Lane) (t u : List Lane) → AllByRecursion (λ (l : Lane). AllByRecursion (IsApart l) (m ∷ u)) t → m.head ≢ Ended → AllByRecursion (λ (l : Lane). l.head ≢ Ended → l.series ≢ m.series) t
  column m [] u all on = tt
  column m (l ∷ t) u all on = ((λ here. all.0.0 here on), column m t u all.1 on)

  others_track : (t u : List Lane) → AllByRecursion (λ (l : Lane). AllByRecursion (IsApart l) u) t
      → ((s : ℕ) → AllByRecursion (λ (l : Lane). l.head ≢ Ended → l.series ≢ s) t → later s ≡ points s)
      → AllByRecursion (λ (m : Lane). m.head ≢ Ended → later m.series ≡ points m.series) u
  others_track t [] all others = tt
  others_track t (m ∷ u) all others = (
    (λ on. others m.series (column m t u all on)),
    others_track t u (all_if (λ (l : Lane). AllByRecursion (IsApart l) (m ∷ u)) (λ (l : Lane). AllByRecursion (IsApart l) u) (λ l far. far.1) t all) others,
  )

  others_tracks : (t : List Lane) (us : List (List Lane)) → AreElsewhere t us → ((s : ℕ) → AllByRecursion (λ (l : Lane). l.head ≢ Ended → l.series ≢ s) t → later s ≡ points s)
      → contents later us ≡ contents points us
  others_tracks t [] all others = refl
  others_tracks t (u ∷ us) all others =
      ap₂ (λ (x : List (List Point)) (xs : List (List (List Point))). x ∷ xs)
      (same_rest points later u (others_track t u (all_if (λ (l : Lane). AllByRecursion (λ (v : List Lane). AllByRecursion (IsApart l) v) (u ∷ us)) (λ (l : Lane). AllByRecursion (IsApart l) u) (λ l far. far.0) t all) others))
      (others_tracks t us (all_if (λ (l : Lane). AllByRecursion (λ (v : List Lane). AllByRecursion (IsApart l) v) (u ∷ us)) (λ (l : Lane). AllByRecursion (λ (v : List Lane). AllByRecursion (IsApart l) v) us) (λ l far. far.1) t all) others)

  before_track : (t : List Lane) (us : List (List Lane)) (k : ℕ) → k < length us → AreElsewhere t us
      → ((s : ℕ) → AllByRecursion (λ (l : Lane). l.head ≢ Ended → l.series ≢ s) (get_or us k no_lanes) → later s ≡ points s)
      → AllByRecursion (λ (m : Lane). m.head ≢ Ended → later m.series ≡ points m.series) t
  before_track t us k within all others =
      all_if (λ (l : Lane). AllByRecursion (λ (v : List Lane). AllByRecursion (IsApart l) v) us) (λ (m : Lane). m.head ≢ Ended → later m.series ≡ points m.series)
      (λ m far on. others m.series
      (all_if (IsApart m) (λ (l : Lane). l.head ≢ Ended → l.series ≢ m.series) (λ l apart there same. apart on there (sym same)) (get_or us k no_lanes)
      (at_track (λ (v : List Lane). AllByRecursion (IsApart m) v) us k within far))) t all

  pub content_set : (ts : List (List Lane)) (k : ℕ) (lanes : List Lane) → k < length ts → AreAllApart ts
      → ((s : ℕ) → AllByRecursion (λ (l : Lane). l.head ≢ Ended → l.series ≢ s) (get_or ts k no_lanes) → later s ≡ points s)
      → contents later (set ts k lanes) ≡ set (contents points ts) k (map (lane_points later) lanes)
  content_set [] k lanes within apart others = absurd (omega arith)
  content_set (t ∷ ts) zero lanes within apart others = ap (λ (xs : List (List (List Point))). map (lane_points later) lanes ∷ xs) (others_tracks t ts apart.1 others)
  content_set (t ∷ ts) (suc k) lanes within apart others =
      let small : k < length ts = omega arith in
      ap₂ (λ (x : List (List Point)) (xs : List (List (List Point))). x ∷ xs) (same_rest points later t (before_track t ts k small apart.1 others)) (content_set ts k lanes small apart.2 others)

-- ---- Order

all_set : {A : Type 0} (P : A → Type 0) (xs : List A) (k : ℕ) (y : A) → AllByRecursion P xs → P y → AllByRecursion P (set xs k y)
all_set P [] k y all one = tt
all_set P (x ∷ xs) zero y all one = (one, all.1)
all_set P (x ∷ xs) (suc k) y all one = (all.0, all_set P xs k y all.1 one)

to_contents : (back : Bool) (points : ℕ → List Point) (ts : List (List Lane)) → AreAllInOrder back points ts → AllByRecursion (λ (xs : List (List Point)). AllByRecursion (IsInOrder back) xs) (contents points ts)
to_contents back points [] all = tt
to_contents back points (t ∷ ts) all = (all_mapped (lane_points points) (IsInOrder back) t all.0, to_contents back points ts all.1)

from_contents : (back : Bool) (points : ℕ → List Point) (ts : List (List Lane)) → AllByRecursion (λ (xs : List (List Point)). AllByRecursion (IsInOrder back) xs) (contents points ts) → AreAllInOrder back points ts
from_contents back points [] all = tt
from_contents back points (t ∷ ts) all = (all_unmapped (lane_points points) (IsInOrder back) t all.0, from_contents back points ts all.1)

pub order_set : (back : Bool) (points later : ℕ → List Point) (ts : List (List Lane)) (k : ℕ) (lanes : List Lane)
    → contents later (set ts k lanes) ≡ set (contents points ts) k (map (lane_points later) lanes) → AreAllInOrder back points ts → AreInOrder back later lanes
    → AreAllInOrder back later (set ts k lanes)
order_set back points later ts k lanes same all one =
    from_contents back later (set ts k lanes)
    (subst (AllByRecursion (λ (xs : List (List Point)). AllByRecursion (IsInOrder back) xs)) (sym same)
    (all_set (λ (xs : List (List Point)). AllByRecursion (IsInOrder back) xs) (contents points ts) k (map (lane_points later) lanes) (to_contents back points ts all) (all_mapped (lane_points later) (IsInOrder back) lanes one)))

-- ---- Rows of numbered tracks

numbered_map : {A B : Type 0} (n : ℕ) (f : A → B) (g : ℕ → B → List Line) (xs : List A) → numbered n (λ m (x : A). g m (f x)) xs ≡ numbered n g (map f xs)
numbered_map n f g [] = refl
numbered_map n f g (x ∷ xs) = ap (λ (ls : List (List Line)). g n (f x) ∷ ls) (numbered_map (suc n) f g xs)

module _ {A : Type 0} (back : Bool) (g : ℕ → A → List Line) (d : A) where
  all_rows : ℕ → List A → List Line
  all_rows n xs = flat_map (turned back) (numbered n g xs)

  rows_next : (n k : ℕ) (xs : List A) (y : A) (l : Line) → k < length xs → ((j : ℕ) → j < k → turned back (g (n + j) (get_or xs j d)) ≡ [])
      → turned back (g (n + k) (get_or xs k d)) ≡ l ∷ turned back (g (n + k) y)
      → flat_map (turned back) (numbered n g xs) ≡ l ∷ flat_map (turned back) (numbered n g (set xs k y))
  rows_next n k [] y l within before here = absurd (omega arith)
  rows_next n zero (x ∷ xs) y l within before here =
      let first : turned back (g n x) ≡ l ∷ turned back (g n y) = subst (λ (m : ℕ). turned back (g m x) ≡ l ∷ turned back (g m y)) (omega arith) here in
      ap (λ (ls : List Line). ls ++ flat_map (turned back) (numbered (suc n) g xs)) first
  rows_next n (suc k) (x ∷ xs) y l within before here =
      let empty : turned back (g n x) ≡ [] = subst (λ (m : ℕ). turned back (g m x) ≡ []) (omega arith) (before zero (omega arith)) in
      ap (λ (ls : List Line). ls ++ flat_map (turned back) (numbered (suc n) g xs)) empty
      ∙ rows_next (suc n) k xs y l (omega arith) (λ j less. subst (λ (m : ℕ). turned back (g m (get_or xs j d)) ≡ []) (omega arith) (before (suc j) (omega (arith, less))))
      (subst (λ (m : ℕ). turned back (g m (get_or xs k d)) ≡ l ∷ turned back (g m y)) (omega arith) here)
      ∙ ap (λ (ls : List Line). l ∷ (ls ++ flat_map (turned back) (numbered (suc n) g (set xs k y)))) (sym empty)

  rows_same : (n k : ℕ) (xs : List A) (y : A) → k < length xs → turned back (g (n + k) (get_or xs k d)) ≡ turned back (g (n + k) y)
      → flat_map (turned back) (numbered n g xs) ≡ flat_map (turned back) (numbered n g (set xs k y))
  rows_same n k [] y within here = absurd (omega arith)
  rows_same n zero (x ∷ xs) y within here =
      ap (λ (ls : List Line). ls ++ flat_map (turned back) (numbered (suc n) g xs)) (subst (λ (m : ℕ). turned back (g m x) ≡ turned back (g m y)) (omega arith) here)
  rows_same n (suc k) (x ∷ xs) y within here =
      ap (λ (ls : List Line). turned back (g n x) ++ ls) (rows_same (suc n) k xs y (omega arith) (subst (λ (m : ℕ). turned back (g m (get_or xs k d)) ≡ turned back (g m y)) (omega arith) here))

-- ---- Tracks that have ended

ended_known : (t : List Lane) → HaveEnded t → AllByRecursion (λ (l : Lane). l.head ≢ Unasked) t
ended_known t all = all_if (λ (l : Lane). l.head ≡ Ended) (λ (l : Lane). l.head ≢ Unasked) (λ l e u. unasked_goes_on (sym u ∙ e)) t all

ended_none : (t : List Lane) (k : ℕ) → k < length t → HaveEnded t → HeadIs (λ x. ⊥) (get_or t k no_lane).head
ended_none [] k within all = absurd (omega arith)
ended_none (l ∷ t) zero within all = subst (HeadIs (λ x. ⊥)) (sym all.0) tt
ended_none (l ∷ t) (suc k) within all = ended_none t k (omega arith) all.1

pub ended_coming : (back : Bool) (track : ℕ) (points : ℕ → List Point) (t : List Lane) → HaveEnded t → coming K.Select back track points t ≡ []
ended_coming back track points t all = row_none back track points t (ended_known t all) (λ k within. ended_none t k within all)

pub all_ended : (back : Bool) (points : ℕ → List Point) (n : ℕ) (ts : List (List Lane)) → ((k : ℕ) → k < length ts → HaveEnded (get_or ts k no_lanes))
    → flat_map (turned back) (numbered n (λ m (t : List Lane). track_lines K.Select back m (rising_of back (map (lane_points points) t))) ts) ≡ []
all_ended back points n [] past = refl
all_ended back points n (t ∷ ts) past =
    ap₂ (λ (xs ys : List Line). xs ++ ys) (ended_coming back n points t (past zero (omega arith))) (all_ended back points (suc n) ts (λ k less. past (suc k) (omega (arith, less))))

-- ---- A track is turned

module _ (back : Bool) (points later : ℕ → List Point) (ts : List (List Lane)) (k : ℕ) (lanes : List Lane) (within : k < length ts)
    (same : contents later (set ts k lanes) ≡ set (contents points ts) k (map (lane_points later) lanes)) where
  abbrev of_content : ℕ → List (List Point) → List Line
  of_content n xs = track_lines K.Select back n (rising_of back xs)

  rows_are : (ps : ℕ → List Point) (us : List (List Lane)) → select_rows back ps us ≡ flat_map (turned back) (numbered 0 (λ n xs. track_lines K.Select back n (rising_of back xs)) (contents ps us))
  rows_are ps us = ap (flat_map (turned back)) (numbered_map 0 (λ (t : List Lane). map (lane_points ps) t) (λ n xs. track_lines K.Select back n (rising_of back xs)) us)

  content_at : (j : ℕ) → j < length ts → get_or (contents points ts) j [] ≡ map (lane_points points) (get_or ts j no_lanes)
  content_at j below = get_or-map (λ (t : List Lane). map (lane_points points) t) ts j no_lanes [] below

  content_length : length (contents points ts) ≡ length ts
  content_length = length-map ts (λ (t : List Lane). map (lane_points points) t)

  passed_content : HavePassed k ts → (j : ℕ) → j < k → turned back (of_content (0 + j) (get_or (contents points ts) j [])) ≡ []
  passed_content past j less =
      ap (λ (xs : List (List Point)). turned back (of_content (0 + j) xs)) (content_at j (omega (arith, less, within)))
      ∙ ended_coming back (0 + j) points (get_or ts j no_lanes) (past j less)

  number : 0 + k ≡ k
  number = omega arith

  pub turned_next : (l : Line) → HavePassed k ts → coming K.Select back k points (get_or ts k no_lanes) ≡ l ∷ coming K.Select back k later lanes
      → select_rows back points ts ≡ l ∷ select_rows back later (set ts k lanes)
  turned_next l past here =
      let here_too : turned back (of_content (0 + k) (get_or (contents points ts) k [])) ≡ l ∷ turned back (of_content (0 + k) (map (lane_points later) lanes)) =
      ap (λ (xs : List (List Point)). turned back (of_content (0 + k) xs)) (content_at k within)
      ∙ subst (λ (m : ℕ). turned back (of_content m (map (lane_points points) (get_or ts k no_lanes))) ≡ l ∷ turned back (of_content m (map (lane_points later) lanes))) (sym number) here in
      rows_are points ts
      ∙ rows_next back of_content [] 0 k (contents points ts) (map (lane_points later) lanes) l (omega (arith, content_length, within)) (passed_content past) here_too
      ∙ ap (λ (xs : List (List (List Point))). l ∷ flat_map (turned back) (numbered 0 of_content xs)) (sym same)
      ∙ ap (λ (ls : List Line). l ∷ ls) (sym (rows_are later (set ts k lanes)))

  pub turned_ended : coming K.Select back k points (get_or ts k no_lanes) ≡ coming K.Select back k later lanes → select_rows back points ts ≡ select_rows back later (set ts k lanes)
  turned_ended here =
      let here_too : turned back (of_content (0 + k) (get_or (contents points ts) k [])) ≡ turned back (of_content (0 + k) (map (lane_points later) lanes)) =
      ap (λ (xs : List (List Point)). turned back (of_content (0 + k) xs)) (content_at k within)
      ∙ subst (λ (m : ℕ). turned back (of_content m (map (lane_points points) (get_or ts k no_lanes))) ≡ turned back (of_content m (map (lane_points later) lanes))) (sym number) here in
      rows_are points ts
      ∙ rows_same back of_content [] 0 k (contents points ts) (map (lane_points later) lanes) (omega (arith, content_length, within)) here_too
      ∙ ap (λ (xs : List (List (List Point))). flat_map (turned back) (numbered 0 of_content xs)) (sym same)
      ∙ sym (rows_are later (set ts k lanes))

-- ---- A call of all tracks

pub all_later_length : (ts us : List (List Lane)) → AreAllLater ts us → length us ≡ length ts
all_later_length [] [] x = refl
all_later_length [] (u ∷ us) x = absurd x
all_later_length (t ∷ ts) [] x = absurd x
all_later_length (t ∷ ts) (u ∷ us) x = ap suc (all_later_length ts us x.1)

had_follows : (can could : ℕ → Type 0) → ((s : ℕ) → can s → could s) → (ts : List (List Lane)) → AreAllHad can ts → AreAllHad could ts
had_follows can could follows ts all =
    all_if (λ (t : List Lane). AllByRecursion (IsHad can) t) (λ (t : List Lane). AllByRecursion (IsHad could) t)
    (λ t had. all_if (IsHad can) (IsHad could) (λ l one on. follows l.series (one on)) t had) ts all

pub had_later : (can could : ℕ → Type 0) (ts us : List (List Lane)) → AreAllLater ts us → ((s : ℕ) → can s → could s) → AreAllHad can ts → AreAllHad could us
had_later can could ts us later follows all = had_follows can could follows us (all_each_later can ts us later all)

module _ (back : Bool) (can : ℕ → Type 0) (points after : ℕ → List Point) (k : ℕ) (taken : Bool) (row : Row) (ts us : List (List Lane)) (within : k < length ts) (apart : AreAllApart ts)
    (turn : IsTurned back can points after k taken row ts us) (others : (s : ℕ) → AllByRecursion (λ (l : Lane). l.head ≢ Ended → l.series ≢ s) (get_or ts k no_lanes) → after s ≡ points s) where
  same_contents : contents after (set ts k turn.lanes) ≡ set (contents points ts) k (map (lane_points after) turn.lanes)
  same_contents = content_set points after ts k turn.lanes within apart others

  one_had : AreAllHad can ts → AllByRecursion (IsHad can) (get_or ts k no_lanes)
  one_had had = at_track (λ (t : List Lane). AllByRecursion (IsHad can) t) ts k within had

  one_order : AreAllInOrder back points ts → AreInOrder back points (get_or ts k no_lanes)
  one_order order = at_track (λ (t : List Lane). AreInOrder back points t) ts k within order

  pub step_order : AreAllHad can ts → AreAllInOrder back points ts → AreAllInOrder back after us
  step_order had order =
      subst (AreAllInOrder back after) (sym turn.are) (order_set back points after ts k turn.lanes same_contents order (turn.order (one_had had) (one_order order)))

  pub step_true : taken ≡ true → HavePassed k ts → AreAllHad can ts → AreAllInOrder back points ts → IsTaken true row (select_rows back points ts) (select_rows back after us)
  step_true is past had order =
      let one : IsTaken true row (coming K.Select back k points (get_or ts k no_lanes)) (coming K.Select back k after turn.lanes) =
      subst (λ (b : Bool). IsTaken b row (coming K.Select back k points (get_or ts k no_lanes)) (coming K.Select back k after turn.lanes)) is (turn.rows (one_had had) (one_order order)) in
      subst (λ (vs : List (List Lane)). IsTaken true row (select_rows back points ts) (select_rows back after vs)) (sym turn.are)
      (one.0, one.1, turned_next back points after ts k turn.lanes within same_contents one.0 past one.2)

  pub step_false : taken ≡ false → AreAllHad can ts → AreAllInOrder back points ts → select_rows back points ts ≡ select_rows back after us
  step_false is had order =
      let one : IsTaken false row (coming K.Select back k points (get_or ts k no_lanes)) (coming K.Select back k after turn.lanes) =
      subst (λ (b : Bool). IsTaken b row (coming K.Select back k points (get_or ts k no_lanes)) (coming K.Select back k after turn.lanes)) is (turn.rows (one_had had) (one_order order)) in
      subst (λ (vs : List (List Lane)). select_rows back points ts ≡ select_rows back after vs) (sym turn.are)
      (turned_ended back points after ts k turn.lanes within same_contents (one.0 ∙ sym one.1))

  pub step_passed : taken ≡ false → AreAllLater ts us → HavePassed k ts → HavePassed (k + 1) us
  step_passed is later past j less = by (cases_lt j k)
    where
      by : (j < k) ⊎ (k ≤ j) → HaveEnded (get_or us j no_lanes)
      by (inl before) = passed_later k ts us later past j before
      by (inr not_before) =
          let here : k ≡ j = omega (arith, not_before, less) in
          subst (λ (i : ℕ). HaveEnded (get_or us i no_lanes)) here (subst (λ (vs : List (List Lane)). HaveEnded (get_or vs k no_lanes)) (sym turn.are) (subst HaveEnded (sym (get_or-set_same ts k turn.lanes no_lanes within)) (turn.ended is)))
