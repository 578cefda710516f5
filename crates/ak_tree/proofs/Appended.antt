-- What an accepted point makes of a world and of a forest.
use Rattle.std.proofs.Common.{◌≡◌, ◌≢◌, inl, inr, ℕ, zero, suc, ◌<◌, ◌≤◌, ◌∙◌, List, [], ◌∷◌, ◌++◌, length, map, get_or, slice_set, Option, Some, None, Bool, false, refl, sym, ap, subst, arith, rules}
use Rattle.std.proofs.lemmas.Bool.{cases_eq, cases_lt, cond-true, cond-false, eq-eqb, ne_eqb, le-leb, lt-leb, and_left, and_right, and_from}
use Rattle.std.proofs.lemmas.List.{get_or-set_same, get_or-set_other, length-map}
use Rattle.std.specs.Prelude.{◌==◌, nat_le, if◌then◌else◌, IfSome, IsTrue, IsFalse}
use Rattle.ak_base.specs.Points.{IsPoint}
use Rattle.ak_base.specs.declared.limits.Limits.{Limits}
use Rattle.ak_base.specs.declared.point.Point.{Point}
use Rattle.ak_base.specs.declared.stop.Stop.{Stop}
use Rattle.ak_host.specs.Moments.{HostState, DiskPasses}
use Rattle.ak_host.proofs.Passing.{disk_starts, disk_weaker}
use Rattle.ak_leaf.proofs.Spellings.{spelling_most}
use Rattle.ak_leaf.specs.Spelling.{start, leaf_size}
use Rattle.ak_levels.specs.Pending.{Lists}
use Rattle.ak_meta.specs.Contents.{Content}
use Rattle.ak_meta.specs.Leaves.{leaves_at}
use Rattle.ak_pool.specs.Frames.{Used, AreNumbered, AreFrames, IsUsed, IsLastFrame, used_frame, frames_of, leaf_of, series_of, with_leaf, moved_first}
use Rattle.ak_pool.specs.declared.pool.Frame.{Frame}
use Rattle.ak_pool.proofs.Theirs.{moved_leaf, lent_leaf, lent_own}
use Rattle.ak_pool.proofs.Uses.{unused}
use Rattle.ak_tree.specs.Standing.{Trees, AreTrees, Keeps, Holds, IsOpenLeaf, ArePooled, OpensLevel, IsClosedFor, leaf_in, last_of_series, last_behind, last_known, base_of, bases_of}
use Rattle.ak_tree.specs.Stops.{IsWornBy}
use Rattle.ak_tree.specs.Storing.{IsStored, LeavesView}
use Rattle.ak_volumes.specs.Ordinals.{newest, file_of}
use Rattle.ak_world.specs.Leaves.{Leaf, Series, with_point}
use Rattle.ak_world.specs.Steps.{changed, written_in, is_empty, closed, unless_worn, made_fit, oldest, made_room, added, in_time, accepted}
use Rattle.ak_world.specs.Valid.{Goes}
use Rattle.ak_world.specs.Worlds.{World, limits_of, content_now, kept_now}
use Rattle.ak_world.proofs.ContentsOfNames.{content_written, kept_written}
use Rattle.ak_world.proofs.Going.{joined, same, close_goes}
use Rattle.ak_tree.proofs.Closed.{leaf_is, within_world}
use Rattle.ak_tree.proofs.Framing.{behind_push}
use Rattle.ak_tree.proofs.Pooling.{IsFound, found_in, leaf_some}
use Rattle.ak_tree.proofs.Telling.{told_stays}
use Rattle.ak_tree.proofs.Wanted.{extended_keeps, started_keeps}
use Rattle.ak_tree.proofs.Joining.{leaves_before, passes_later, passes_both, empty_some, unless_fresh, unless_goes, make_goes, add_goes, time_goes}

-- ---- Steps of the world

-- the steps once the leaf has room
abbrev pub begun : World → ℕ → Point → World
begun v n p = unless_worn (unless_worn v (made_room n)) (added n p)

begun_made : (v : World) (n : ℕ) (p : Point) → v.worn ≡ false → begun v n p ≡ unless_worn (made_room n v) (added n p)
begun_made v n p fresh = ap (λ (u : World). unless_worn u (added n p)) (unless_fresh v (made_room n) fresh)

pub begun_goes : (v : World) (n : ℕ) (p : Point) → Goes v (begun v n p)
begun_goes v n p = joined v (unless_worn v (made_room n)) (begun v n p) (unless_goes v (made_room n) (make_goes n)) (unless_goes (unless_worn v (made_room n)) (added n p) (add_goes n p))

-- and the whole
pub accepted_begun : (w : World) (n : ℕ) (p : Point) → w.worn ≡ false → accepted w n p ≡ unless_worn (begun (made_fit n p w) n p) in_time
accepted_begun w n p fresh = ap (λ (v : World). unless_worn (begun v n p) in_time) (unless_fresh w (made_fit n p) fresh)

-- ---- Room

pub leaf_fits : (w : World) (n : ℕ) (p : Point) → leaf_size (written_in w.series n ++ p ∷ []) ≤ 4032 → made_fit n p w ≡ w
leaf_fits w n p fits = ap (λ (b : Bool). if b then w else closed w n) (le-leb (leaf_size (written_in w.series n ++ p ∷ [])) 4032 fits)

pub leaf_full : (w : World) (n : ℕ) (p : Point) → 4032 < leaf_size (written_in w.series n ++ p ∷ []) → made_fit n p w ≡ closed w n
leaf_full w n p full = ap (λ (b : Bool). if b then w else closed w n) (lt-leb (leaf_size (written_in w.series n ++ p ∷ [])) 4032 full)

-- a point has room in an empty leaf
pub none_fits : (w : World) (n : ℕ) (p : Point) → written_in w.series n ≡ [] → made_fit n p w ≡ w
none_fits w n p empty =
    let one : leaf_size (p ∷ []) ≤ 4032 = omega (arith, spelling_most start (p ∷ [])) in
    leaf_fits w n p (subst (λ (ps : List Point). leaf_size (ps ++ p ∷ []) ≤ 4032) (sym empty) one)

-- no frame is wanted
pub some_room : (v : World) (n : ℕ) → written_in v.series n ≢ [] → made_room n v ≡ v
some_room v n some =
    ap (λ (b : Bool). if b then closed v (oldest v.recent) else v)
    (and_left (is_empty (written_in v.series n)) (nat_le (limits_of v).pool (length v.recent)) (empty_some (written_in v.series n) some))

-- one is free
pub free_room : (v : World) (n : ℕ) → length v.recent < (limits_of v).pool → made_room n v ≡ v
free_room v n free =
    ap (λ (b : Bool). if b then closed v (oldest v.recent) else v)
    (and_right (is_empty (written_in v.series n)) (nat_le (limits_of v).pool (length v.recent)) (lt-leb (limits_of v).pool (length v.recent) free))

-- none is free
pub full_room : (v : World) (n : ℕ) → written_in v.series n ≡ [] → (limits_of v).pool ≤ length v.recent → made_room n v ≡ closed v (oldest v.recent)
full_room v n empty full =
    ap (λ (b : Bool). if b then closed v (oldest v.recent) else v)
    (and_from (is_empty (written_in v.series n)) (nat_le (limits_of v).pool (length v.recent)) (ap is_empty empty) (le-leb (limits_of v).pool (length v.recent) full))

-- ---- The oldest open leaf

-- the last frame is that of the series in the last place
pub record IsOldest (us : List Used) (frame : ℕ) : Type 0 where
  pub used : IsUsed us frame
  pub series : series_of us frame ≡ oldest (map (λ (u : Used). u.series) us)

pub last_oldest : (count : ℕ) (us : List Used) (frame : ℕ) → AreNumbered count us → IsLastFrame us frame → IsOldest us frame
last_oldest count [] frame are last = absurd last
last_oldest count (u ∷ []) frame are last = record { used = inl last; series = cond-true (u.frame == frame) u.series 0 (eq-eqb u.frame frame last) }
last_oldest count (u ∷ v ∷ us) frame are last =
    let rest : IsOldest (v ∷ us) frame = last_oldest count (v ∷ us) frame are.2 last in
    let other : u.frame ≢ frame = λ e. unused u.frame (v ∷ us) are.1 (subst (IsUsed (v ∷ us)) (sym e) rest.used) in
    record { used = inr rest.used; series = cond-false (u.frame == frame) u.series (series_of (v ∷ us) frame) (ne_eqb u.frame frame other) ∙ rest.series }

-- the used frame in the last place
pub record IsLastUsed (us : List Used) (frame : ℕ) : Type 0 where
  pub front : List Used
  pub last : Used
  pub is : us ≡ front ++ last ∷ []
  pub series : series_of us frame ≡ last.series

pub last_used : (count : ℕ) (us : List Used) (frame : ℕ) → AreNumbered count us → IsLastFrame us frame → IsLastUsed us frame
last_used count [] frame are last = absurd last
last_used count (u ∷ []) frame are last = record { front = []; last = u; is = refl; series = cond-true (u.frame == frame) u.series 0 (eq-eqb u.frame frame last) }
last_used count (u ∷ v ∷ us) frame are last =
    let rest : IsLastUsed (v ∷ us) frame = last_used count (v ∷ us) frame are.2 last in
    let used : IsUsed (v ∷ us) frame = (last_oldest count (v ∷ us) frame are.2 last).used in
    let other : u.frame ≢ frame = λ e. unused u.frame (v ∷ us) are.1 (subst (IsUsed (v ∷ us)) (sym e) used) in
    record {
      front = u ∷ rest.front;
      last = rest.last;
      is = ap (λ (l : List Used). u ∷ l) rest.is;
      series = cond-false (u.frame == frame) u.series (series_of (v ∷ us) frame) (ne_eqb u.frame frame other) ∙ rest.series;
    }

-- a used frame is that of a series that has an open leaf
pub record IsOpened (f : Trees) (n : ℕ) : Type 0 where
  pub known : n < length f.meta.series
  pub opened : get_or f.frames n None ≢ None

pub used_opened : (f : Trees) (frame : ℕ) → ArePooled f.pool f.frames (length f.meta.series) → IsUsed f.pool.used frame → IsOpened f (series_of f.pool.used frame)
used_opened f frame are used =
    let found : IsFound (IsOpenLeaf f.frames) f.pool.used frame = found_in (IsOpenLeaf f.frames) f.pool.used frame are.each used in
    record {
      known = omega (arith, found.series, found.known.known, are.number);
      opened = λ e. some (get_or f.frames found.it.series None) found.it.frame found.known.is (ap (λ (n : ℕ). get_or f.frames n None) (sym found.series) ∙ e);
    }
  where
    some : (o : Option Frame) (n : ℕ) → o ≡ Some (record { 0 = n }) → o ≢ None
    some o n e none = cc

-- the same of a forest that is seen as this one
pub opened_by : (f seen : Trees) (n frame : ℕ) → f ≡ seen → AreTrees f → AreFrames f.pool → IsLastFrame f.pool.used frame → n ≡ series_of f.pool.used frame → IsOpened seen n
opened_by f seen n frame same are frames last is =
    let used = (last_oldest f.pool.count f.pool.used frame frames.numbered last).used in
    subst (λ (t : Trees). IsOpened t n) same (subst (IsOpened f) (sym is) (used_opened f frame are.pooled used))

pub oldest_series : (w : World) (f seen : Trees) (n frame : ℕ) → Keeps w seen → f ≡ seen → AreFrames f.pool → IsLastFrame f.pool.used frame → n ≡ series_of f.pool.used frame → n ≡ oldest w.recent
oldest_series w f seen n frame keeps same frames last is =
    is ∙ (last_oldest f.pool.count f.pool.used frame frames.numbered last).series ∙ ap (λ (t : Trees). oldest (map (λ (u : Used). u.series) t.pool.used)) same ∙ ap oldest keeps.recent_is

-- ---- Last timestamps

abbrev pub Below : ℕ → Option ℕ → Type 0
Below most o = IfSome o (λ last. last ≤ most)

extended_in : (used : List Used) (count most : ℕ) (frame : Frame) (p : Point) (before : Option ℕ) (o : Option Frame) → IsUsed used frame.0 → p.ts ≤ most → Below most (last_behind before (leaf_in (frames_of count used) o))
    → Below most (last_behind before (leaf_in (frames_of count (moved_first (with_leaf used frame.0 (leaf_of used frame.0 ++ p ∷ [])) frame.0)) o))
extended_in used count most frame p before None is below was = was
extended_in used count most frame p before (Some g) is below was =
    let leaf : List Point = leaf_of used frame.0 ++ p ∷ [] in
    let moved : leaf_of (moved_first (with_leaf used frame.0 leaf) frame.0) g.0 ≡ leaf_of (with_leaf used frame.0 leaf) g.0 = moved_leaf (with_leaf used frame.0 leaf) frame.0 g.0 in
    elim (cases_eq g.0 frame.0) [
      | inl here ↦
          let own : leaf_of (moved_first (with_leaf used frame.0 leaf) frame.0) g.0 ≡ leaf = moved ∙ ap (leaf_of (with_leaf used frame.0 leaf)) here ∙ lent_own used frame.0 leaf is in
          subst (Below most) (sym (ap (last_behind before) own ∙ behind_push before (leaf_of used frame.0) p)) below
      | inr other ↦ subst (λ (ps : List Point). Below most (last_behind before ps)) (sym (moved ∙ lent_leaf used frame.0 g.0 leaf other)) was
    ]

pub extended_last : (f : Trees) (n m most : ℕ) (frame : Frame) (p : Point) → ArePooled f.pool f.frames (length f.meta.series) → get_or f.frames n None ≡ Some frame → p.ts ≤ most → Below most (last_known f m)
    → Below most (last_known (record f { pool = frames_of f.pool.count (moved_first (with_leaf f.pool.used frame.0 (leaf_of f.pool.used frame.0 ++ p ∷ [])) frame.0) }) m)
extended_last f n m most frame p are framed below was =
    extended_in f.pool.used f.pool.count most frame p (last_of_series f.meta.series m) (get_or f.frames m None) (are.framed n frame framed).0 below was

started_in : (used : List Used) (count n most : ℕ) (frame : Frame) (p : Point) (before : Option ℕ) (o : Option Frame) → p.ts ≤ most → Below most (last_behind before (leaf_in (frames_of count used) o))
    → Below most (last_behind before (leaf_in (frames_of count (used_frame frame.0 n (p ∷ []) ∷ used)) o))
started_in used count n most frame p before None below was = was
started_in used count n most frame p before (Some g) below was = elim (cases_eq frame.0 g.0) [
  | inl here ↦ subst (λ (ps : List Point). Below most (last_behind before ps)) (sym (cond-true (frame.0 == g.0) (p ∷ []) (leaf_of used g.0) (eq-eqb frame.0 g.0 here))) below
  | inr other ↦ subst (λ (ps : List Point). Below most (last_behind before ps)) (sym (cond-false (frame.0 == g.0) (p ∷ []) (leaf_of used g.0) (ne_eqb frame.0 g.0 other))) was
]

pub started_last : (f : Trees) (n m most : ℕ) (frame : Frame) (p : Point) → n < length f.frames → p.ts ≤ most → Below most (last_known f m)
    → Below most (last_known (record f { pool = frames_of f.pool.count (used_frame frame.0 n (p ∷ []) ∷ f.pool.used); frames = slice_set f.frames n (Some frame) }) m)
started_last f n m most frame p within below was =
    let used : List Used = used_frame frame.0 n (p ∷ []) ∷ f.pool.used in
    let before = last_of_series f.meta.series m in
    elim (cases_eq m n) [
      | inl here ↦
          let framed : get_or (slice_set f.frames n (Some frame)) m None ≡ Some frame = ap (λ (k : ℕ). get_or (slice_set f.frames n (Some frame)) k None) here ∙ get_or-set_same f.frames n (Some frame) None within in
          let own : leaf_in (frames_of f.pool.count used) (Some frame) ≡ p ∷ [] = cond-true (frame.0 == frame.0) (p ∷ []) (leaf_of f.pool.used frame.0) (eq-eqb frame.0 frame.0 refl) in
          subst (λ (o : Option Frame). Below most (last_behind before (leaf_in (frames_of f.pool.count used) o))) (sym framed)
          (subst (λ (ps : List Point). Below most (last_behind before ps)) (sym own) below)
      | inr other ↦
          let same : get_or (slice_set f.frames n (Some frame)) m None ≡ get_or f.frames m None = get_or-set_other f.frames n m (Some frame) None other in
          subst (λ (o : Option Frame). Below most (last_behind before (leaf_in (frames_of f.pool.count used) o))) (sym same)
          (started_in f.pool.used f.pool.count n most frame p before (get_or f.frames m None) below was)
    ]

-- ---- The forest

bases_written : (ss : List Series) (n : ℕ) (p : Point) → map base_of (changed ss n (λ s. with_point s p)) ≡ map base_of ss
bases_written [] n p = refl
bases_written (s ∷ ss) zero p = refl
bases_written (s ∷ ss) (suc n) p = ap (λ (l : List ℕ). base_of s ∷ l) (bases_written ss n p)

-- a point changes nothing that is stored
pub added_holds : (w : World) (f new : Trees) (n : ℕ) (p : Point) (host : HostState) → Holds w f host → new.levels ≡ f.levels → Keeps (added n p w) new → Holds (added n p w) new host
added_holds w f new n p host holds same keeps = record {
  keeps = keeps;
  stored = subst (λ (bases : List ℕ). IsStored w.last (content_now (added n p w)) (kept_now (added n p w)) bases new.levels (file_of w.ordinals (newest w.ordinals)) host) (sym (bases_written w.series n p))
      (subst (λ (c : Content). IsStored w.last c (kept_now (added n p w)) (bases_of w) new.levels (file_of w.ordinals (newest w.ordinals)) host) (sym (content_written w n p))
      (subst (λ (k : List (List Leaf)). IsStored w.last (content_now w) k (bases_of w) new.levels (file_of w.ordinals (newest w.ordinals)) host) (sym (kept_written w n p))
      (subst (λ (levels : List Lists). IsStored w.last (content_now w) (kept_now w) (bases_of w) levels (file_of w.ordinals (newest w.ordinals)) host) (sym same) holds.stored)));
}

-- as many are used as have an open leaf
as_recent : (w : World) (f : Trees) → Keeps w f → length w.recent ≡ length f.pool.used
as_recent w f keeps = sym (ap length keeps.recent_is) ∙ length-map f.pool.used (λ (u : Used). u.series)

pool_is : (w : World) (f : Trees) → AreTrees f → Keeps w f → f.pool.count ≡ (limits_of w).pool
pool_is w f are keeps = are.count ∙ ap (λ (c : Content). c.limits.pool) keeps.content_is

-- a frame is free
pub begun_free : (w : World) (f : Trees) (n : ℕ) (p : Point) → AreTrees f → Keeps w f → length f.pool.used < f.pool.count → begun w n p ≡ added n p w
begun_free w f n p are keeps free =
    let room : made_room n w ≡ w = free_room w n (omega (arith, free, as_recent w f keeps, pool_is w f are keeps)) in
    begun_made w n p keeps.not_worn ∙ ap (λ (u : World). unless_worn u (added n p)) room ∙ unless_fresh w (added n p) keeps.not_worn

-- none is free
pub begun_full : (w : World) (f : Trees) (n : ℕ) (p : Point) → AreTrees f → Keeps w f → n < length f.meta.series → get_or f.frames n None ≡ None → f.pool.count ≤ length f.pool.used → begun w n p ≡ unless_worn (closed w (oldest w.recent)) (added n p)
begun_full w f n p are keeps within none full =
    let room : made_room n w ≡ closed w (oldest w.recent) = full_room w n (keeps.others n (within_world w f n keeps within) none) (omega (arith, full, as_recent w f keeps, pool_is w f are keeps)) in
    begun_made w n p keeps.not_worn ∙ ap (λ (u : World). unless_worn u (added n p)) room

-- and the oldest open leaf is closed
pub full_worn : (w : World) (f : Trees) (n : ℕ) (p : Point) (s : Stop) → AreTrees f → Keeps w f → n < length f.meta.series → get_or f.frames n None ≡ None → f.pool.count ≤ length f.pool.used → IsWornBy (closed w (oldest w.recent)) s → IsWornBy (begun w n p) s
full_worn w f n p s are keeps within none full told =
    subst (λ (u : World). IsWornBy u s) (sym (begun_full w f n p are keeps within none full)) (told_stays (closed w (oldest w.recent)) (added n p) s told)

pub full_passes : (w : World) (f : Trees) (n : ℕ) (p : Point) (old new : HostState) → AreTrees f → Keeps w f → n < length f.meta.series → get_or f.frames n None ≡ None → f.pool.count ≤ length f.pool.used
    → DiskPasses (LeavesView w (closed w (oldest w.recent))) old new → DiskPasses (LeavesView w (begun w n p)) old new
full_passes w f n p old new are keeps within none full run =
    let closing : World = closed w (oldest w.recent) in
    subst (λ (u : World). DiskPasses (LeavesView w u) old new) (sym (begun_full w f n p are keeps within none full))
    (passes_later w closing (unless_worn closing (added n p)) old new (unless_goes closing (added n p) (add_goes n p)) run)

pub full_begun : (w : World) (f : Trees) (n : ℕ) (p : Point) → AreTrees f → Keeps w f → n < length f.meta.series → get_or f.frames n None ≡ None → f.pool.count ≤ length f.pool.used → (closed w (oldest w.recent)).worn ≡ false
    → begun w n p ≡ added n p (closed w (oldest w.recent))
full_begun w f n p are keeps within none full fresh = begun_full w f n p are keeps within none full ∙ unless_fresh (closed w (oldest w.recent)) (added n p) fresh

pub not_free : (used count : ℕ) → (used < count → IsTrue false) → count ≤ used
not_free used count free = elim (cases_lt used count) [
  | inl below ↦ let t : IsTrue false = free below in absurd (search (rules, t))
  | inr full ↦ full
]

pub not_fits : (size : ℕ) (r : Bool) → r ≡ false → (size ≤ 4032 → IsTrue r) → 4032 < size
not_fits size r less fits = elim (cases_lt 4032 size) [
  | inl large ↦ large
  | inr small ↦ let t : IsTrue false = subst IsTrue less (fits small) in absurd (search (rules, t))
]

pub is_false : (r : Bool) → r ≡ false → IsFalse r
is_false r is = let f : IsFalse false = search rules in subst IsFalse (sym is) f

-- one is free once a leaf is closed
pub one_free : (f new : Trees) → AreTrees f → AreTrees new → new.meta.limits ≡ f.meta.limits → suc (length new.pool.used) ≡ length f.pool.used → length new.pool.used < new.pool.count
one_free f new are is limits fewer = omega (arith, fewer, are.pooled.frames_are.most, are.count, is.count, ap (λ (l : Limits). l.pool) limits)

pub started_holds : (w : World) (f new : Trees) (n : ℕ) (p : Point) (host : HostState) → AreTrees f → Holds w f host → n < length f.meta.series → get_or f.frames n None ≡ None → IsPoint p → IfSome (last_known f n) (λ last. last ≤ p.ts)
    → (frame : Frame) × (new ≡ record f { pool = frames_of f.pool.count (used_frame frame.0 n (p ∷ []) ∷ f.pool.used); frames = slice_set f.frames n (Some frame) })
    → Holds (added n p w) new host
started_holds w f new n p host are holds within none point below started =
    added_holds w f new n p host holds (ap (λ (t : Trees). t.levels) started.1)
    (subst (Keeps (added n p w)) (sym started.1) (started_keeps w f n p started.0 are holds.keeps within none point below))

pub started_below : (f new : Trees) (n m most : ℕ) (p : Point) → AreTrees f → n < length f.meta.series → p.ts ≤ most → Below most (last_known f m)
    → (frame : Frame) × (new ≡ record f { pool = frames_of f.pool.count (used_frame frame.0 n (p ∷ []) ∷ f.pool.used); frames = slice_set f.frames n (Some frame) })
    → Below most (last_known new m)
started_below f new n m most p are within below was started =
    subst (λ (t : Trees). Below most (last_known t m)) (sym started.1) (started_last f n m most started.0 p (omega (arith, are.pooled.number, within)) below was)

-- ---- Memory

-- the open leaf that was written least recently opens a level
abbrev pub OpensOldest : Trees → Type 0
OpensOldest f = (front : List Used) × (last : Used) × (f.pool.used ≡ front ++ last ∷ []) × OpensLevel (leaves_at f.meta.series last.series)

-- a leaf that is closed before the point is added opens a level
abbrev pub OpensFor : Trees → ℕ → Point → Type 0
OpensFor f n p = (m : ℕ) × IsClosedFor f n p m × OpensLevel (leaves_at f.meta.series m)

pub oldest_opens : (f seen : Trees) (n : ℕ) (p : Point) → seen ≡ f → get_or f.frames n None ≡ None → f.pool.count ≤ length f.pool.used → OpensOldest seen → OpensFor f n p
oldest_opens f seen n p same none full opens =
    let here : OpensOldest f = subst OpensOldest same opens in
    (here.1.series, inr (none, full, here.0, here.1, here.2, refl), here.3)

-- the leaf of the series is full
pub own_opens : (f seen : Trees) (n : ℕ) (p : Point) (frame : Frame) → seen ≡ f → get_or f.frames n None ≡ Some frame → 4032 < leaf_size (leaf_of f.pool.used frame.0 ++ p ∷ [])
    → OpensLevel (leaves_at seen.meta.series n) → OpensFor f n p
own_opens f seen n p frame same framed full opens =
    (n, inl (frame, framed, full, refl), subst (λ (t : Trees). OpensLevel (leaves_at t.meta.series n)) same opens)

-- behind a leaf that was closed no other one is
pub closed_for_none : (f new : Trees) (n m : ℕ) (p : Point) → AreTrees f → AreTrees new → new.meta.limits ≡ f.meta.limits → get_or new.frames n None ≡ None
    → suc (length new.pool.used) ≡ length f.pool.used → IsClosedFor new n p m → ⊥
closed_for_none f new n m p are is limits none fewer (inl own) = not_both own.0 (sym own.1 ∙ none) where
  not_both : (g : Frame) → Some g ≢ None
  not_both g e = cc
closed_for_none f new n m p are is limits none fewer (inr oldest) = absurd (omega (arith, one_free f new are is limits fewer, oldest.1))

-- the same of the forest of which its leaf was closed
pub closed_leaf_none : (f seen new closing : Trees) (n m : ℕ) (p : Point) → AreTrees f → AreTrees new → seen ≡ f → new ≡ closing → n < length f.meta.series → closing.meta.limits ≡ seen.meta.limits
    → closing.frames ≡ slice_set seen.frames n None → suc (length closing.pool.used) ≡ length seen.pool.used → IsClosedFor new n p m → ⊥
closed_leaf_none f seen new closing n m p are is same now within limits frames fewer closes =
    let set : new.frames ≡ slice_set f.frames n None = ap (λ (t : Trees). t.frames) now ∙ frames ∙ ap (λ (t : Trees). slice_set t.frames n None) same in
    let none : get_or new.frames n None ≡ None = ap (λ (l : List (Option Frame)). get_or l n None) set ∙ get_or-set_same f.frames n None None (omega (arith, are.pooled.number, within)) in
    let less : suc (length new.pool.used) ≡ length f.pool.used = ap (λ (t : Trees). suc (length t.pool.used)) now ∙ fewer ∙ ap (λ (t : Trees). length t.pool.used) same in
    closed_for_none f new n m p are is (ap (λ (t : Trees). t.meta.limits) now ∙ limits ∙ ap (λ (t : Trees). t.meta.limits) same) none less closes

-- ---- Accepted points

-- the leaf has room for the point
pub fit_accepted : (w : World) (f : Trees) (n : ℕ) (p : Point) (frame : Frame) → AreTrees f → Keeps w f → get_or f.frames n None ≡ Some frame → leaf_size (leaf_of f.pool.used frame.0 ++ p ∷ []) ≤ 4032 → accepted w n p ≡ in_time (added n p w)
fit_accepted w f n p frame are keeps framed fits =
    let leaf : leaf_of f.pool.used frame.0 ≡ written_in w.series n = leaf_is w f n (length f.meta.series) frame are.pooled keeps framed in
    let some : written_in w.series n ≢ [] = λ e. leaf_some f.pool f.frames (length f.meta.series) n frame are.pooled framed (leaf ∙ e) in
    let small : leaf_size (written_in w.series n ++ p ∷ []) ≤ 4032 = subst (λ (ps : List Point). leaf_size (ps ++ p ∷ []) ≤ 4032) leaf fits in
    accepted_begun w n p keeps.not_worn
    ∙ ap (λ (v : World). unless_worn (begun v n p) in_time) (leaf_fits w n p small)
    ∙ ap (λ (u : World). unless_worn u in_time) (begun_made w n p keeps.not_worn ∙ ap (λ (u : World). unless_worn u (added n p)) (some_room w n some) ∙ unless_fresh w (added n p) keeps.not_worn)
    ∙ unless_fresh (added n p w) in_time keeps.not_worn

pub extended_holds : (w : World) (f new : Trees) (n : ℕ) (p : Point) (frame : Frame) (host : HostState) → AreTrees f → Holds w f host → n < length f.meta.series → get_or f.frames n None ≡ Some frame → IsPoint p → IfSome (last_known f n) (λ last. last ≤ p.ts)
    → new ≡ record f { pool = frames_of f.pool.count (moved_first (with_leaf f.pool.used frame.0 (leaf_of f.pool.used frame.0 ++ p ∷ [])) frame.0) } → Holds (added n p w) new host
extended_holds w f new n p frame host are holds within framed point below put =
    added_holds w f new n p host holds (ap (λ (t : Trees). t.levels) put) (subst (Keeps (added n p w)) (sym put) (extended_keeps w f n p frame are holds.keeps within framed point below))

-- the world once the leaf has room, and what is left to do
pub record IsFitted (w : World) (n : ℕ) (p : Point) (f : Trees) (start host : HostState) : Type 0 where
  pub now : World
  pub holds : Holds now f host
  pub rest : accepted w n p ≡ unless_worn (begun now n p) in_time
  pub goes : Goes w now
  pub moments : DiskPasses (LeavesView w now) start host

-- there is no leaf
pub none_fitted : (w : World) (f : Trees) (n : ℕ) (p : Point) (host : HostState) → Holds w f host → n < length f.meta.series → get_or f.frames n None ≡ None → IsFitted w n p f host host
none_fitted w f n p host holds within none = record {
  now = w;
  holds = holds;
  rest = accepted_begun w n p holds.keeps.not_worn ∙ ap (λ (v : World). unless_worn (begun v n p) in_time) (none_fits w n p (holds.keeps.others n (within_world w f n holds.keeps within) none));
  goes = same w w refl refl;
  moments = disk_starts (LeavesView w w) host;
}

-- it was full
pub full_rest : (w : World) (f : Trees) (n : ℕ) (p : Point) (frame : Frame) → AreTrees f → Keeps w f → get_or f.frames n None ≡ Some frame → 4032 < leaf_size (leaf_of f.pool.used frame.0 ++ p ∷ []) → accepted w n p ≡ unless_worn (begun (closed w n) n p) in_time
full_rest w f n p frame are keeps framed full =
    let leaf : leaf_of f.pool.used frame.0 ≡ written_in w.series n = leaf_is w f n (length f.meta.series) frame are.pooled keeps framed in
    let large : 4032 < leaf_size (written_in w.series n ++ p ∷ []) = subst (λ (ps : List Point). 4032 < leaf_size (ps ++ p ∷ [])) leaf full in
    accepted_begun w n p keeps.not_worn ∙ ap (λ (v : World). unless_worn (begun v n p) in_time) (leaf_full w n p large)

pub full_fitted : (w : World) (f new : Trees) (n : ℕ) (p : Point) (frame : Frame) (start host : HostState) → AreTrees f → Keeps w f → get_or f.frames n None ≡ Some frame → 4032 < leaf_size (leaf_of f.pool.used frame.0 ++ p ∷ [])
    → Holds (closed w n) new host → DiskPasses (LeavesView w (closed w n)) start host → IsFitted w n p new start host
full_fitted w f new n p frame first host are keeps framed full holds run = record {
  now = closed w n;
  holds = holds;
  rest = full_rest w f n p frame are keeps framed full;
  goes = close_goes w n;
  moments = run;
}

rest_goes : (v : World) (n : ℕ) (p : Point) → Goes v (unless_worn (begun v n p) in_time)
rest_goes v n p = joined v (begun v n p) (unless_worn (begun v n p) in_time) (begun_goes v n p) (unless_goes (begun v n p) in_time time_goes)

pub full_stays : (w : World) (f : Trees) (n : ℕ) (p : Point) (frame : Frame) (s : Stop) → AreTrees f → Keeps w f → get_or f.frames n None ≡ Some frame → 4032 < leaf_size (leaf_of f.pool.used frame.0 ++ p ∷ []) → IsWornBy (closed w n) s → IsWornBy (accepted w n p) s
full_stays w f n p frame s are keeps framed full told =
    let v : World = closed w n in
    subst (λ (u : World). IsWornBy u s) (sym (full_rest w f n p frame are keeps framed full))
    (told_stays (begun v n p) in_time s (told_stays (unless_worn v (made_room n)) (added n p) s (told_stays v (made_room n) s told)))

pub full_leaves : (w : World) (f : Trees) (n : ℕ) (p : Point) (frame : Frame) (old new : HostState) → AreTrees f → Keeps w f → get_or f.frames n None ≡ Some frame → 4032 < leaf_size (leaf_of f.pool.used frame.0 ++ p ∷ [])
    → DiskPasses (LeavesView w (closed w n)) old new → DiskPasses (LeavesView w (accepted w n p)) old new
full_leaves w f n p frame old new are keeps framed full run =
    subst (λ (v : World). DiskPasses (LeavesView w v) old new) (sym (full_rest w f n p frame are keeps framed full))
    (passes_later w (closed w n) (unless_worn (begun (closed w n) n p) in_time) old new (rest_goes (closed w n) n p) run)

-- once there is room
module _ (w : World) (n : ℕ) (p : Point) (f : Trees) (start mid : HostState) (fitted : IsFitted w n p f start mid) where
  pub fitted_worn : (s : Stop) → IsWornBy (begun fitted.now n p) s → IsWornBy (accepted w n p) s
  fitted_worn s told = subst (λ (u : World). IsWornBy u s) (sym fitted.rest) (told_stays (begun fitted.now n p) in_time s told)

  begun_passes : (host : HostState) → DiskPasses (LeavesView fitted.now (begun fitted.now n p)) mid host → DiskPasses (LeavesView w (begun fitted.now n p)) start host
  begun_passes host run = passes_both w fitted.now (begun fitted.now n p) start mid host fitted.goes (begun_goes fitted.now n p) fitted.moments run

  pub fitted_passes : (host : HostState) → DiskPasses (LeavesView fitted.now (begun fitted.now n p)) mid host → DiskPasses (LeavesView w (accepted w n p)) start host
  fitted_passes host run =
      subst (λ (v : World). DiskPasses (LeavesView w v) start host) (sym fitted.rest)
      (passes_later w (begun fitted.now n p) (unless_worn (begun fitted.now n p) in_time) start host (unless_goes (begun fitted.now n p) in_time time_goes) (begun_passes host run))

  -- and the point is put
  pub fitted_is : (begun fitted.now n p).worn ≡ false → accepted w n p ≡ in_time (begun fitted.now n p)
  fitted_is fresh = fitted.rest ∙ unless_fresh (begun fitted.now n p) in_time fresh

  pub viewed_passes : (host later : HostState) → (begun fitted.now n p).worn ≡ false → DiskPasses (LeavesView fitted.now (begun fitted.now n p)) mid host → DiskPasses (LeavesView (begun fitted.now n p) (in_time (begun fitted.now n p))) host later
      → DiskPasses (LeavesView w (accepted w n p)) start later
  viewed_passes host later fresh run view =
      let u : World = begun fitted.now n p in
      subst (λ (v : World). DiskPasses (LeavesView w v) start later) (sym (fitted_is fresh))
      (passes_both w u (in_time u) start host later (joined w fitted.now u fitted.goes (begun_goes fitted.now n p)) (time_goes u) (begun_passes host run) view)

-- where the leaf had room from the start
pub fit_passes : (w : World) (n : ℕ) (p : Point) (old new : HostState) → accepted w n p ≡ in_time (added n p w) → DiskPasses (LeavesView (added n p w) (in_time (added n p w))) old new → DiskPasses (LeavesView w (accepted w n p)) old new
fit_passes w n p old new is run =
    let u : World = added n p w in
    subst (λ (v : World). DiskPasses (LeavesView w v) old new) (sym is)
    (disk_weaker run (λ disk left. leaves_before w u (in_time u) disk (add_goes n p w) left))
