-- What a forest keeps where a store is worn.
use Rattle.std.proofs.Common.{◌≡◌, ◌≢◌, ℕ, ◌+◌, ◌-◌, ◌^◌, ◌<◌, ◌≤◌, ◌∙◌, [], ◌∷◌, ◌++◌, Bool, true, length, get_or, None, Some, refl, sym, ap, subst}
use Rattle.std.proofs.lemmas.Bool.{eq-eqb}
use Rattle.std.specs.Prelude.{if◌then◌else◌}
use Rattle.ak_base.specs.declared.point.Point.{Point}
use Rattle.ak_host.specs.Moments.{HostState}
use Rattle.ak_leaf.specs.Spelling.{leaf_size}
use Rattle.ak_meta.specs.Contents.{Content, IsMeta}
use Rattle.ak_pool.specs.Frames.{leaf_of}
use Rattle.ak_pool.specs.declared.pool.Frame.{Frame}
use Rattle.ak_tree.specs.Standing.{Trees, AreTrees, Keeps, KeepsWorn}
use Rattle.ak_tree.proofs.Appended.{begun, begun_full, full_rest}
use Rattle.ak_tree.proofs.Joining.{IsOnWay, closed_rest, from_stays, room_switch, unless_stays}
use Rattle.ak_tree.proofs.Saved.{content_switched, after_last, switch_begins, with_ordinal}
use Rattle.ak_volumes.specs.Ordinals.{Ordinals, newest, newest_fill}
use Rattle.ak_world.specs.Steps.{written_in, switch, with_room, group_of, closed, unless_worn, oldest, made_room, added, in_time, accepted, closed_from}
use Rattle.ak_world.specs.Worlds.{World, worn_world, after_view}
use Rattle.ak_world.proofs.ContentsOfLeaves.{after}

-- ---- Steps

-- a worn world that this one is
pub kept_same : (v u : World) (f : Trees) → (v.worn ≡ true → u ≡ v) → KeepsWorn v f → KeepsWorn u f
kept_same v u f same kept = subst (λ (x : World). KeepsWorn x f) (sym (same kept.worn)) kept

-- only the flag differs
pub kept_worn : (w : World) (f : Trees) → Keeps w f → KeepsWorn (worn_world w) f
kept_worn w f keeps = record {
  worn = refl;
  content_is = keeps.content_is;
  since_is = keeps.since_is;
  number_is = keeps.number_is;
  recent_is = keeps.recent_is;
  open_leaves = keeps.open_leaves;
  others = keeps.others;
}

-- and an ordinal has begun
begun_worn : (w : World) (f : Trees) → Keeps w f → KeepsWorn (worn_world (with_ordinal w)) (record f { meta = content_switched f.meta })
begun_worn w f keeps = record {
  worn = refl;
  content_is = ap content_switched keeps.content_is;
  since_is = keeps.since_is;
  number_is = keeps.number_is;
  recent_is = keeps.recent_is;
  open_leaves = keeps.open_leaves;
  others = keeps.others;
}

-- ---- Views

-- no view can be taken
pub view_left : (w : World) (f new : Trees) → Keeps w f → f.check.number ≡ 2 ^ 64 - 1 → new ≡ f → KeepsWorn (after_view w) new
view_left w f new keeps last same =
    subst (KeepsWorn (after_view w)) (sym same) (subst (λ (u : World). KeepsWorn u f) (sym (after_last w (sym keeps.number_is ∙ last))) (kept_worn w f keeps))

-- none can be where an ordinal has begun
pub switch_left : (w : World) (f h new : Trees) → Keeps w f → IsMeta f.meta → newest f.meta.ordinals < 2 ^ 32 - 1 → h ≡ record f { meta = content_switched f.meta }
    → h.check.number ≡ 2 ^ 64 - 1 → new ≡ h → KeepsWorn (switch w) new
switch_left w f h new keeps rules below begun_is last same =
    let ordinals : f.meta.ordinals ≡ w.ordinals = ap (λ (c : Content). c.ordinals) keeps.content_is in
    let least : newest w.ordinals < 2 ^ 32 - 1 = subst (λ (o : Ordinals). newest o < 2 ^ 32 - 1) ordinals below in
    let number : (with_ordinal w).last.number ≡ 2 ^ 64 - 1 = sym keeps.number_is ∙ sym (ap (λ (t : Trees). t.check.number) begun_is) ∙ last in
    subst (KeepsWorn (switch w)) (sym (same ∙ begun_is)) (subst (λ (u : World). KeepsWorn u (record f { meta = content_switched f.meta })) (sym (switch_begins w least ∙ after_last (with_ordinal w) number)) (begun_worn w f keeps))

-- no ordinal follows the newest
pub room_left : (w : World) (f : Trees) (blocks : ℕ) → Keeps w f → f.meta.ordinals.blocks < newest_fill f.meta.ordinals + blocks → newest f.meta.ordinals ≡ 2 ^ 32 - 1 → KeepsWorn (with_room w blocks) f
room_left w f blocks keeps over last =
    let ordinals = ap (λ (c : Content). c.ordinals) keeps.content_is in
    let least : newest w.ordinals ≡ 2 ^ 32 - 1 = ap newest (sym ordinals) ∙ last in
    let none : w.ordinals.blocks < newest_fill w.ordinals + blocks = subst (λ (o : Ordinals). o.blocks < newest_fill o + blocks) ordinals over in
    let worn : switch w ≡ worn_world w =
    ap (λ (b : Bool). if b then worn_world w else after_view (with_ordinal w)) (eq-eqb (newest w.ordinals) (2 ^ 32 - 1) least) in
    subst (λ (u : World). KeepsWorn u f) (sym (room_switch w blocks none ∙ worn)) (kept_worn w f keeps)

-- ---- Closed leaves

-- the leaf stays open where there is no room for its group
pub closed_left : (w : World) (n blocks : ℕ) (f : Trees) → blocks ≡ group_of w n → KeepsWorn (with_room w blocks) f → KeepsWorn (closed w n) f
closed_left w n blocks f is kept =
    let v : World = with_room w (group_of w n) in
    let here : KeepsWorn v f = subst (λ (k : ℕ). KeepsWorn (with_room w k) f) is kept in
    kept_same v (closed w n) f (λ worn. ap (λ (b : Bool). if b then v else after v n (group_of w n)) worn) here

-- the leaves behind it stay open too
pub way_left : (w : World) (n : ℕ) (f new : Trees) (host : HostState) (way : IsOnWay w n f host) → n < length w.series → written_in way.now.series n ≢ [] → KeepsWorn (closed way.now n) new → KeepsWorn (closed_from (length w.series) 0 w) new
way_left w n f new host way within some kept =
    subst (λ (v : World). KeepsWorn v new) (closed_rest w n f host way within some)
    (kept_same (closed way.now n) (closed_from (length w.series - (n + 1)) (n + 1) (closed way.now n)) new (from_stays (length w.series - (n + 1)) (n + 1) (closed way.now n)) kept)

-- ---- Points

-- no point is added where the oldest open leaf can't be closed
pub oldest_left : (w : World) (f new : Trees) (n : ℕ) (p : Point) → AreTrees f → Keeps w f → n < length f.meta.series → get_or f.frames n None ≡ None → f.pool.count ≤ length f.pool.used → KeepsWorn (closed w (oldest w.recent)) new → KeepsWorn (begun w n p) new
oldest_left w f new n p are keeps within none full kept =
    let v : World = closed w (oldest w.recent) in
    kept_same v (begun w n p) new (λ worn. begun_full w f n p are keeps within none full ∙ unless_stays v (added n p) worn) kept

-- behind this nothing more is done
rest_stays : (v : World) (n : ℕ) (p : Point) → v.worn ≡ true → unless_worn (begun v n p) in_time ≡ v
rest_stays v n p worn =
    ap (λ (u : World). unless_worn (unless_worn u (added n p)) in_time) (unless_stays v (made_room n) worn)
    ∙ ap (λ (u : World). unless_worn u in_time) (unless_stays v (added n p) worn) ∙ unless_stays v in_time worn

-- its leaf has no room for the point, and can't be closed
pub own_left : (w : World) (f new : Trees) (n : ℕ) (p : Point) (frame : Frame) → AreTrees f → Keeps w f → get_or f.frames n None ≡ Some frame → 4032 < leaf_size (leaf_of f.pool.used frame.0 ++ p ∷ []) → KeepsWorn (closed w n) new → KeepsWorn (accepted w n p) new
own_left w f new n p frame are keeps framed full kept = kept_same (closed w n) (accepted w n p) new (λ worn. full_rest w f n p frame are keeps framed full ∙ rest_stays (closed w n) n p worn) kept

-- no view is taken where no point was added
pub begun_left : (w v : World) (n : ℕ) (p : Point) (new : Trees) → accepted w n p ≡ unless_worn (begun v n p) in_time → KeepsWorn (begun v n p) new → KeepsWorn (accepted w n p) new
begun_left w v n p new rest kept = kept_same (begun v n p) (accepted w n p) new (λ worn. rest ∙ unless_stays (begun v n p) in_time worn) kept
