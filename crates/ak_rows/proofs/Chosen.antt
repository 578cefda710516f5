-- The points of members merged by time, of which the next is taken.
use Rattle.std.proofs.Common.{◌≡◌, ◌≢◌, ℕ, zero, suc, ◌<◌, ◌≤◌, Bool, true, false, List, [], ◌∷◌, ◌++◌, length, map, get_or, set, take, drop, refl, ap, ap₂, subst, ◌∙◌, sym, arith}
use Rattle.std.specs.List.{AllByRecursion}
use Rattle.std.proofs.lemmas.List.{map-append, set_split}
use Rattle.ak_base.specs.declared.point.Point.{Point}
use Rattle.ak_rows.specs.Ahead.{comes, head_points, lane_points, no_lane, IsInOrder}
use Rattle.ak_rows.specs.Answers.{merged}
use Rattle.ak_rows.specs.Picks.{loses_before, loses_behind, HeadIs, IsNext}
use Rattle.ak_rows.specs.Sorted.{in_time, turned}
use Rattle.ak_rows.specs.declared.points.Head.{Head}
use Rattle.ak_rows.specs.declared.points.Head.TheVariants.{Unasked, Ended, At}
use Rattle.ak_rows.specs.declared.points.Lane.{Lane}
use Rattle.std.specs.Prelude.{reverse}
use Rattle.ak_query.specs.declared.query.Kind.TheVariants.{Select}
use Rattle.ak_rows.specs.Coming.{coming, rising, AreInOrder}
use Rattle.ak_rows.specs.Lines.{Line, point_line}
use Rattle.ak_rows.proofs.Merging.{next_out, all_if, flat, reverse_first}

-- what holds of the point in hand holds of all that follow
pub later_before : (back : Bool) (t u v : ℕ) → loses_before back t u → comes back u v → loses_before back t v
later_before false t u v l c = omega (arith, l, c)
later_before true t u v l c = omega (arith, l, c)

pub later_behind : (back : Bool) (t u v : ℕ) → loses_behind back t u → comes back u v → loses_behind back t v
later_behind false t u v l c = omega (arith, l, c)
later_behind true t u v l c = omega (arith, l, c)

lane_all : (back : Bool) (P : ℕ → Type 0) → ((u v : ℕ) → P u → comes back u v → P v) → (h : Head) (ps : List Point) → h ≢ Unasked → IsInOrder back (head_points h ps)
    → HeadIs P h → AllByRecursion (λ (q : Point). P q.ts) (head_points h ps)
lane_all back P on Unasked ps known order is = absurd (known refl)
lane_all back P on Ended ps known order is = tt
lane_all back P on (At q) ps known order is = (is, all_if (λ (r : Point). comes back q.ts r.ts) (λ (r : Point). P r.ts) (λ r c. on q.ts r.ts is c) ps order.0)

lanes_all : (back : Bool) (P : ℕ → Type 0) → ((u v : ℕ) → P u → comes back u v → P v) → (points : ℕ → List Point) (ls : List Lane)
    → AllByRecursion (λ (l : Lane). l.head ≢ Unasked) ls → AllByRecursion (λ (l : Lane). IsInOrder back (lane_points points l)) ls
    → AllByRecursion (λ (l : Lane). HeadIs P l.head) ls → AllByRecursion (AllByRecursion (λ (q : Point). P q.ts)) (map (lane_points points) ls)
lanes_all back P on points [] known order is = tt
lanes_all back P on points (l ∷ ls) known order is =
    (lane_all back P on l.head (points l.series) known.0 order.0 is.0, lanes_all back P on points ls known.1 order.1 is.1)

-- ---- Those before a place, the one at it, and those behind it

pub all_take : {A : Type 0} (P : A → Type 0) (i : ℕ) (xs : List A) → AllByRecursion P xs → AllByRecursion P (take i xs)
all_take P zero xs all = tt
all_take P (suc i) [] all = tt
all_take P (suc i) (x ∷ xs) all = (all.0, all_take P i xs all.1)

pub all_drop : {A : Type 0} (P : A → Type 0) (i : ℕ) (xs : List A) → AllByRecursion P xs → AllByRecursion P (drop i xs)
all_drop P zero xs all = all
all_drop P (suc i) [] all = tt
all_drop P (suc i) (x ∷ xs) all = all_drop P i xs all.1

pub split_at : {A : Type 0} (i : ℕ) (xs : List A) (d : A) → i < length xs → xs ≡ take i xs ++ get_or xs i d ∷ drop (suc i) xs
split_at i [] d within = absurd (omega arith)
split_at zero (x ∷ xs) d within = refl
split_at (suc i) (x ∷ xs) d within = ap (λ ys. x ∷ ys) (split_at i xs d (omega arith))

pub before_by_place : {A : Type 0} (P : A → Type 0) (i : ℕ) (xs : List A) (d : A) → i ≤ length xs → ((k : ℕ) → k < i → P (get_or xs k d)) → AllByRecursion P (take i xs)
before_by_place P zero xs d within each = tt
before_by_place P (suc i) [] d within each = absurd (omega arith)
before_by_place P (suc i) (x ∷ xs) d within each = (each zero (omega arith), before_by_place P i xs d (omega arith) (λ k less. each (suc k) (omega (arith, less))))

pub all_by_place : {A : Type 0} (P : A → Type 0) (xs : List A) (d : A) → ((k : ℕ) → k < length xs → P (get_or xs k d)) → AllByRecursion P xs
all_by_place P [] d each = tt
all_by_place P (x ∷ xs) d each = (each zero (omega arith), all_by_place P xs d (λ k less. each (suc k) (omega (arith, less))))

pub behind_by_place : {A : Type 0} (P : A → Type 0) (i : ℕ) (xs : List A) (d : A) → ((k : ℕ) → i ≤ k → k < length xs → P (get_or xs k d)) → AllByRecursion P (drop i xs)
behind_by_place P zero xs d each = all_by_place P xs d (λ k less. each k (omega arith) less)
behind_by_place P (suc i) [] d each = tt
behind_by_place P (suc i) (x ∷ xs) d each = behind_by_place P i xs d (λ k more less. each (suc k) (omega (arith, more)) (omega (arith, less)))

-- ---- The next point of all

-- The lists of members, of which one gives its point: the rest of the merged points.
pub select_next : (back : Bool) (points : ℕ → List Point) (ls : List Lane) (i : ℕ) (p : Point) (taken : Lane)
    → AllByRecursion (λ (l : Lane). l.head ≢ Unasked) ls
    → AllByRecursion (λ (l : Lane). IsInOrder back (lane_points points l)) ls
    → IsNext back ls (length ls) i p
    → lane_points points taken ≡ points (get_or ls i no_lane).series
    → turned back (merged (map (turned back) (map (lane_points points) ls)))
    ≡ p ∷ turned back (merged (map (turned back) (map (lane_points points) (set ls i taken))))
select_next back points ls i p taken known order is rest_is =
    let us = take i ls in
    let vs = drop (suc i) ls in
    let here = get_or ls i no_lane in
    let rest = points here.series in
    let F = lane_points points in
    let G = λ (xss : List (List Point)). turned back (merged (map (turned back) xss)) in
    let one : map F ls ≡ map F us ++ (p ∷ rest) ∷ map F vs =
    ap (map F) (split_at i ls no_lane is.within) ∙ map-append F us (here ∷ vs)
    ∙ ap (λ h. map F us ++ head_points h rest ∷ map F vs) is.here in
    let two : map F (set ls i taken) ≡ map F us ++ rest ∷ map F vs =
    ap (map F) (set_split ls i taken is.within) ∙ map-append F us (taken ∷ vs)
    ∙ ap (λ r. map F us ++ r ∷ map F vs) rest_is in
    let here_order : IsInOrder back (p ∷ rest) =
    subst (λ h. IsInOrder back (head_points h rest)) is.here (at_place (λ (l : Lane). IsInOrder back (lane_points points l)) ls i is.within order) in
    ap G one
    ∙ next_out (λ (q : Point). q.ts) back (map F us) p rest (map F vs)
    (lanes_all back (loses_before back p.ts) (λ u v. later_before back p.ts u v) points us
    (all_take (λ (l : Lane). l.head ≢ Unasked) i ls known) (all_take (λ (l : Lane). IsInOrder back (lane_points points l)) i ls order)
    (before_by_place (λ (l : Lane). HeadIs (loses_before back p.ts) l.head) i ls no_lane (omega (arith, is.within)) is.before))
    here_order.0
    (lanes_all back (loses_behind back p.ts) (λ u v. later_behind back p.ts u v) points vs
    (all_drop (λ (l : Lane). l.head ≢ Unasked) (suc i) ls known) (all_drop (λ (l : Lane). IsInOrder back (lane_points points l)) (suc i) ls order)
    (behind_by_place (λ (l : Lane). HeadIs (loses_behind back p.ts) l.head) (suc i) ls no_lane (λ k more less. is.behind k (omega (arith, more)) less)))
    ∙ ap (λ xss. p ∷ G xss) (sym two)
  where
    at_place : (P : Lane → Type 0) (ms : List Lane) (j : ℕ) → j < length ms → AllByRecursion P ms → P (get_or ms j no_lane)
    at_place P [] j within all = absurd (omega arith)
    at_place P (m ∷ ms) zero within all = all.0
    at_place P (m ∷ ms) (suc j) within all = at_place P ms j (omega arith) all.1

-- Where no member has a point, nothing is to come.
ended_points : (h : Head) (ps : List Point) → h ≢ Unasked → HeadIs (λ t. ⊥) h → head_points h ps ≡ []
ended_points Unasked ps known is = absurd (known refl)
ended_points Ended ps known is = refl
ended_points (At q) ps known is = absurd is

pub none_ahead : (points : ℕ → List Point) (ls : List Lane) → AllByRecursion (λ (l : Lane). l.head ≢ Unasked) ls
    → ((k : ℕ) → k < length ls → HeadIs (λ t. ⊥) (get_or ls k no_lane).head) → AllByRecursion (λ ps. ps ≡ []) (map (lane_points points) ls)
none_ahead points [] known is = tt
none_ahead points (l ∷ ls) known is =
    (ended_points l.head (points l.series) known.0 (is zero (omega arith)), none_ahead points ls known.1 (λ k less. is (suc k) (omega (arith, less))))

-- ---- Rows

pub none_merged : (back : Bool) (xss : List (List Point)) → AllByRecursion (λ ps. ps ≡ []) xss → merged (map (turned back) xss) ≡ []
none_merged back xss all = ap (in_time (λ (p : Point). p.ts)) (none_flat back xss all)
  where
    none_flat : (b : Bool) (yss : List (List Point)) → AllByRecursion (λ ps. ps ≡ []) yss → flat b yss ≡ []
    none_flat b [] none = refl
    none_flat false (ys ∷ yss) none = ap₂ (λ (x y : List Point). x ++ y) none.0 (none_flat false yss none.1)
    none_flat true (ys ∷ yss) none = ap₂ (λ (x y : List Point). reverse x ++ y) none.0 (none_flat true yss none.1)

pub map_turned : {A B : Type 0} (f : A → B) (back : Bool) (xs : List A) → turned back (map f xs) ≡ map f (turned back xs)
map_turned f false xs = refl
map_turned f true xs = map_reverse f xs
  where
    map_reverse : {A B : Type 0} (f : A → B) (xs : List A) → reverse (map f xs) ≡ map f (reverse xs)
    map_reverse f [] = refl
    map_reverse f (x ∷ xs) =
        reverse_first (f x) (map f xs) ∙ ap (λ ys. ys ++ f x ∷ []) (map_reverse f xs)
        ∙ sym (map-append f (reverse xs) (x ∷ [])) ∙ ap (map f) (sym (reverse_first x xs))

-- the next row of a track is made from its next point
pub row_next : (back : Bool) (track : ℕ) (points : ℕ → List Point) (ls : List Lane) (i : ℕ) (p : Point) (taken : Lane)
    → AllByRecursion (λ (l : Lane). l.head ≢ Unasked) ls → AreInOrder back points ls → IsNext back ls (length ls) i p
    → lane_points points taken ≡ points (get_or ls i no_lane).series
    → coming Select back track points ls ≡ point_line track p ∷ coming Select back track points (set ls i taken)
row_next back track points ls i p taken known order is rest_is =
    map_turned (point_line track) back (merged (rising back points ls))
    ∙ ap (map (point_line track)) (select_next back points ls i p taken known order is rest_is)
    ∙ ap (λ xs. point_line track p ∷ xs) (sym (map_turned (point_line track) back (merged (rising back points (set ls i taken)))))

turned_none : {A : Type 0} (back : Bool) (xs : List A) → xs ≡ [] → turned back xs ≡ []
turned_none false xs none = none
turned_none true xs none = ap reverse none

pub row_none : (back : Bool) (track : ℕ) (points : ℕ → List Point) (ls : List Lane) → AllByRecursion (λ (l : Lane). l.head ≢ Unasked) ls
    → ((k : ℕ) → k < length ls → HeadIs (λ t. ⊥) (get_or ls k no_lane).head) → coming Select back track points ls ≡ []
row_none back track points ls known is =
    turned_none back (map (point_line track) (merged (rising back points ls)))
    (ap (map (point_line track)) (none_merged back (map (lane_points points) ls) (none_ahead points ls known is)))
