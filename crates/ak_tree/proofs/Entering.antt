-- What a forest holds of a world, and the last timestamps that it knows, where a leaf is entered.
use Rattle.std.proofs.Common.{◌≡◌, ◌≢◌, inl, inr, ◌∙◌, ℕ, zero, suc, ◌+◌, ◌-◌, ◌^◌, ◌<◌, ◌≤◌, List, [], ◌∷◌, length, get_or, slice_set, Option, Some, None, false, refl, sym, ap, ap₂, subst, arith}
use Rattle.std.proofs.lemmas.Bool.{cond-false, ne_eqb}
use Rattle.std.proofs.lemmas.List.{get_or-set_same, get_or-set_other, length-set}
use Rattle.std.specs.Prelude.{◌==◌, slice_index}
use Rattle.ak_base.specs.Points.{last_ts_from}
use Rattle.ak_base.specs.declared.point.Point.{Point}
use Rattle.ak_checkpoint.specs.Saving.{Saving}
use Rattle.ak_image.specs.Laid.{spot}
use Rattle.ak_levels.specs.Carries.{carry_of}
use Rattle.ak_levels.specs.Entries.{AreLawful}
use Rattle.ak_levels.specs.Pending.{Lists}
use Rattle.ak_meta.proofs.Closing.{leaves_cons, sizes_here, fill_most}
use Rattle.ak_meta.proofs.Fronts.{each_taken}
use Rattle.ak_meta.proofs.Lawful.{close_lawful}
use Rattle.ak_meta.proofs.Rooms.{filled_lawful, filled_room}
use Rattle.ak_meta.specs.Contents.{Content, IsMeta, leaves_of}
use Rattle.ak_meta.specs.Leaves.{with_leaf, with_leaf_at, closed_in, leaves_at, IsEntered}
use Rattle.ak_meta.specs.declared.meta.SeriesMeta.{SeriesMeta}
use Rattle.ak_pool.proofs.Theirs.{given_leaf}
use Rattle.ak_pool.specs.Frames.{Used, Frames, frames_of, AreFrames, leaf_of, without}
use Rattle.ak_pool.specs.declared.pool.Frame.{Frame}
use Rattle.ak_tree.specs.Standing.{Trees, trees, AreTrees, ArePooled, Keeps, leaf_in, last_of_series, last_behind, last_known}
use Rattle.ak_tree.proofs.Framing.{as_many, written_other, written_is, behind_some, frames_differ, leaf_kept}
use Rattle.ak_tree.proofs.Pooling.{same_or_other, IsFrameOf, frame_of, framed_within, leaf_some, series_without, others_of, pooled_closed}
use Rattle.ak_tree.proofs.Waiting.{lawful_entered}
use Rattle.ak_volumes.specs.Ordinals.{Ordinals, AreOrdinals, newest, newest_fill, address, ordinal_of, index_of, filled}
use Rattle.ak_world.proofs.ContentsOfLeaves.{after, after_is, content_closed, leaves_known}
use Rattle.ak_world.proofs.Valid.{length_changed, enter_valid}
use Rattle.ak_world.specs.Leaves.{Series, closed_at}
use Rattle.ak_world.specs.Steps.{changed, written_in, leaves_in, but, entered, group_of}
use Rattle.ak_world.specs.Valid.{IsWorld}
use Rattle.ak_world.specs.Worlds.{World, content_now}

-- ---- The record

-- the record after a leaf with these points is entered, and so many blocks behind it
abbrev pub meta_entered : Content → ℕ → List Point → ℕ → Content
meta_entered c n ps others = closed_in (record c { ordinals = filled c.ordinals (1 + others) }) n (last_ts_from 0 ps) (spot c.ordinals)

-- the last live ordinal stands in the address of a group, and its fill behind it
spot_ordinal : (a b : ℕ) → b < 2 ^ 32 → ordinal_of (address a b) ≡ a
spot_ordinal a b small = grind arith

spot_index : (a b : ℕ) → b < 2 ^ 32 → index_of (address a b) ≡ b
spot_index a b small = grind arith

-- a group that is filled stands in the fill
pub spot_entered : (o : Ordinals) (others : ℕ) → AreOrdinals o → newest_fill o + (1 + others) ≤ o.blocks → IsEntered (filled o (1 + others)) (spot o) others
spot_entered o others are room =
    let n = length o.fills - 1 in
    let fill = newest_fill o in
    let long : length (slice_set o.fills n (fill + (1 + others))) ≡ length o.fills = length-set o.fills n (fill + (1 + others)) in
    let small : fill < 2 ^ 32 = omega (arith, room, are.indexes) in
    let ordinal : ordinal_of (spot o) ≡ newest o = spot_ordinal (newest o) fill small in
    let index : index_of (spot o) ≡ fill = spot_index (newest o) fill small in
    let place : ordinal_of (spot o) - o.lo ≡ n = omega (arith, ordinal, are.some) in
    let is : slice_index (slice_set o.fills n (fill + (1 + others))) (ordinal_of (spot o) - o.lo) ≡ fill + (1 + others) =
    ap (slice_index (slice_set o.fills n (fill + (1 + others)))) place ∙ get_or-set_same o.fills n (fill + (1 + others)) 0 (omega (arith, are.some)) in
    record {
      ordinal = record { from = omega (arith, ordinal, are.some); to = omega (arith, ordinal, long, are.some) };
      index = omega (arith, index, is);
    }

pub spot_small : (o : Ordinals) (more : ℕ) → AreOrdinals o → newest_fill o + (1 + more) ≤ o.blocks → spot o < 2 ^ 64
spot_small o more are room = omega (arith, are.last, are.some, are.indexes, room)

pub spot_below : (o : Ordinals) → AreOrdinals o → spot o < 2 ^ 64
spot_below o are = omega (arith, are.last, are.some, are.indexes, fill_most o.blocks o.fills (length o.fills - 1) are.within)

pub meta_lawful : (c : Content) (n others : ℕ) (ps : List Point) → IsMeta c → n < length c.series → others ≡ carry_of (leaves_at c.series n) → newest_fill c.ordinals + (1 + others) ≤ c.ordinals.blocks → last_ts_from 0 ps < 2 ^ 64
    → IsMeta (meta_entered c n ps others)
meta_lawful c n others ps is within top room small =
    let o = c.ordinals in
    let filled_is : IsMeta (record c { ordinals = filled o (1 + others) }) = filled_lawful c (1 + others) is room in
    close_lawful (record c { ordinals = filled o (1 + others) }) n (last_ts_from 0 ps) (spot o) filled_is within small (spot_small o others is.ordinals_are room)
    (subst (λ (k : ℕ). IsEntered (filled o (1 + others)) (spot o) k) top (spot_entered o others is.ordinals_are room)) (filled_room c (1 + others) is (omega arith) room)

leaves_more : (all : List SeriesMeta) (n last a : ℕ) → n < length all → leaves_of (with_leaf_at all n last a) ≡ leaves_of all + 1
leaves_more [] n last a within = absurd (omega arith)
leaves_more (s ∷ all) zero last a within = omega (arith, leaves_cons (with_leaf s last a) all, leaves_cons s all)
leaves_more (s ∷ all) (suc n) last a within = omega (arith, leaves_cons s (with_leaf_at all n last a), leaves_cons s all, leaves_more all n last a (omega arith))

long_entered : (all : List SeriesMeta) (n last a : ℕ) → length (with_leaf_at all n last a) ≡ length all
long_entered [] n last a = refl
long_entered (s ∷ all) zero last a = refl
long_entered (s ∷ all) (suc n) last a = ap suc (long_entered all n last a)

-- ---- The forest

-- the forest after the open leaf of a series is entered
abbrev pub with_entered : Trees → ℕ → Frame → ℕ → List Lists → Trees
with_entered f n g others levels = trees (meta_entered f.meta n (leaf_of f.pool.used g.0) others) (frames_of f.pool.count (without f.pool.used g.0)) (slice_set f.frames n None) levels f.check (f.since + 1)

pub trees_entered : (f : Trees) (n : ℕ) (g : Frame) (others : ℕ) (v : Lists) → AreTrees f → get_or f.frames n None ≡ Some g → others ≡ carry_of (leaves_at f.meta.series n)
    → newest_fill f.meta.ordinals + (1 + others) ≤ f.meta.ordinals.blocks → last_ts_from 0 (leaf_of f.pool.used g.0) < 2 ^ 64 → AreFrames (frames_of f.pool.count (without f.pool.used g.0))
    → AreLawful (leaves_at f.meta.series n + 1) v → AreTrees (with_entered f n g others (slice_set f.levels n v))
trees_entered f n g others v are is top room small valid waits =
    let k = length f.meta.series in
    let last = last_ts_from 0 (leaf_of f.pool.used g.0) in
    let a = spot f.meta.ordinals in
    let within : n < k = framed_within f.pool f.frames k n g are.pooled is in
    record {
      rules_are = meta_lawful f.meta n others (leaf_of f.pool.used g.0) are.rules_are within top room small;
      room = omega (arith, sizes_here f.meta.series n last a, are.room);
      slot_is = are.slot_is;
      count = are.count;
      pooled = subst (ArePooled (frames_of f.pool.count (without f.pool.used g.0)) (slice_set f.frames n None)) (sym (long_entered f.meta.series n last a))
          (pooled_closed f.pool.count f.pool.used f.frames k n g are.pooled is valid);
      lawful = lawful_entered f.meta.series f.levels n last a v are.lawful waits;
      since = omega (arith, leaves_more f.meta.series n last a within, are.since);
    }

-- ---- The world

written_none : (ss : List Series) (n a : ℕ) → written_in (changed ss n (λ s. closed_at s a)) n ≡ []
written_none [] n a = refl
written_none (s ∷ ss) zero a = refl
written_none (s ∷ ss) (suc n) a = written_none ss n a

-- the record that the world says then
content_entered : (w : World) (c : Content) (n others : ℕ) (ps : List Point) → IsWorld w → w.worn ≡ false → n < length w.series → written_in w.series n ≢ [] → c ≡ content_now w → others ≡ carry_of (leaves_in w.series n) → written_in w.series n ≡ ps
    → meta_entered c n ps others ≡ content_now (entered w n (group_of w n))
content_entered w c n others ps is fresh within some same top leaf =
    ap (λ (d : Content). meta_entered d n ps others) same
    ∙ ap₂ (λ (qs : List Point) (k : ℕ). meta_entered (content_now w) n qs k) (sym leaf) top
    ∙ sym (content_closed w n is fresh within some)

keeps_after : (w : World) (f : Trees) (n blocks : ℕ) (g : Frame) (meta : Content) (levels : List Lists) → AreTrees f → Keeps w f → get_or f.frames n None ≡ Some g → meta ≡ content_now (after w n blocks) → IsWorld (after w n blocks)
    → Keeps (after w n blocks) (trees meta (frames_of f.pool.count (without f.pool.used g.0)) (slice_set f.frames n None) levels f.check (f.since + 1))
keeps_after w f n blocks g meta levels are keeps is same valid =
    let us : List Used = f.pool.used in
    let k = length f.meta.series in
    let a = address (newest w.ordinals) (newest_fill w.ordinals) in
    let ss : List Series = changed w.series n (λ s. closed_at s a) in
    let within : n < k = framed_within f.pool f.frames k n g are.pooled is in
    let own : IsFrameOf us n g.0 = frame_of f.pool f.frames k n g are.pooled is in
    record {
      not_worn = keeps.not_worn;
      valid = valid;
      content_is = same;
      since_is = ap (λ (m : ℕ). m + 1) keeps.since_is;
      number_is = keeps.number_is;
      recent_is = series_without us n g.0 own.each ∙ ap (but n) keeps.recent_is;
      open_leaves =
          each_taken (λ (u : Used). (written_in w.series u.series ≡ u.leaf) × (u.series ≢ n)) (λ (u : Used). written_in ss u.series ≡ u.leaf)
          (λ u h. written_other w.series n u.series (λ s. closed_at s a) h.1 ∙ h.0) (without us g.0)
          (others_of (λ u. written_in w.series u.series ≡ u.leaf) us n g.0 own.each keeps.open_leaves);
      others = λ m inner none. elim (same_or_other m n) [
        | inl e ↦ ap (written_in ss) e ∙ written_none w.series n a
        | inr o ↦
            written_other w.series n m (λ s. closed_at s a) o
            ∙ keeps.others m (omega (arith, inner, length_changed w.series n (λ s. closed_at s a))) (sym (get_or-set_other f.frames n m None None o) ∙ none)
      ];
    }

-- what is known of the series whose leaf is entered
pub record MayEnter (w : World) (f : Trees) (n others : ℕ) : Type 0 where
  pub within : n < length w.series
  pub some : written_in w.series n ≢ []
  pub group : 1 + others ≡ group_of w n
  pub room : newest_fill w.ordinals + group_of w n ≤ w.ordinals.blocks

pub may_enter : (w : World) (f : Trees) (n : ℕ) (g : Frame) (others : ℕ) → AreTrees f → Keeps w f → get_or f.frames n None ≡ Some g → others ≡ carry_of (leaves_at f.meta.series n)
    → newest_fill f.meta.ordinals + (1 + others) ≤ f.meta.ordinals.blocks → MayEnter w f n others
may_enter w f n g others are keeps is top room =
    let k = length f.meta.series in
    let within : n < k = framed_within f.pool f.frames k n g are.pooled is in
    let inside : n < length w.series = omega (arith, within, as_many w f keeps) in
    let leaf : written_in w.series n ≡ leaf_of f.pool.used g.0 = written_is w f n are keeps within ∙ ap (leaf_in f.pool) is in
    let count : leaves_at f.meta.series n ≡ leaves_in w.series n = ap (λ (c : Content). leaves_at c.series n) keeps.content_is ∙ leaves_known w.opened.content.series w.series n inside in
    let group : 1 + others ≡ group_of w n = ap (λ (m : ℕ). 1 + m) (top ∙ ap carry_of count) in
    record {
      within = inside;
      some = λ empty. leaf_some f.pool f.frames k n g are.pooled is (sym leaf ∙ empty);
      group = group;
      room = subst (λ (m : ℕ). newest_fill w.ordinals + m ≤ w.ordinals.blocks) group (subst (λ (c : Content). newest_fill c.ordinals + (1 + others) ≤ c.ordinals.blocks) keeps.content_is room);
    }

pub keeps_entered : (w : World) (f : Trees) (n : ℕ) (g : Frame) (others : ℕ) (levels : List Lists) → AreTrees f → Keeps w f → get_or f.frames n None ≡ Some g → others ≡ carry_of (leaves_at f.meta.series n)
    → newest_fill f.meta.ordinals + (1 + others) ≤ f.meta.ordinals.blocks → Keeps (entered w n (group_of w n)) (with_entered f n g others levels)
keeps_entered w f n g others levels are keeps is top room =
    let k = length f.meta.series in
    let within : n < k = framed_within f.pool f.frames k n g are.pooled is in
    let may : MayEnter w f n others = may_enter w f n g others are keeps is top room in
    let leaf : written_in w.series n ≡ leaf_of f.pool.used g.0 = written_is w f n are keeps within ∙ ap (leaf_in f.pool) is in
    let all : entered w n (group_of w n) ≡ after w n (group_of w n) = after_is w n (group_of w n) keeps.not_worn in
    let count : others ≡ carry_of (leaves_in w.series n) = omega (arith, may.group) in
    let same : meta_entered f.meta n (leaf_of f.pool.used g.0) others ≡ content_now (entered w n (group_of w n)) =
    content_entered w f.meta n others (leaf_of f.pool.used g.0) keeps.valid keeps.not_worn may.within may.some keeps.content_is count leaf in
    subst (λ (v : World). Keeps v (with_entered f n g others levels)) (sym all)
    (keeps_after w f n (group_of w n) g (meta_entered f.meta n (leaf_of f.pool.used g.0) others) levels are keeps is (same ∙ ap content_now all)
    (subst IsWorld all (enter_valid w n (group_of w n) keeps.valid may.within may.some may.room)))

-- the forest by its parts
pub trees_are : (f : Trees) (meta : Content) (pool : Frames) (frames : List (Option Frame)) (levels : List Lists) (check : Saving) (since : ℕ) → f.meta ≡ meta → f.pool ≡ pool → f.frames ≡ frames → f.levels ≡ levels → f.check ≡ check
    → f.since ≡ since → f ≡ trees meta pool frames levels check since
trees_are f meta pool frames levels check since a b c v d e =
    let same : trees f.meta f.pool f.frames f.levels f.check f.since ≡ trees meta pool frames levels check since = cc in same

-- ---- The last timestamp

last_more : (all : List SeriesMeta) (n last a : ℕ) → n < length all → last_of_series (with_leaf_at all n last a) n ≡ Some last
last_more [] n last a within = absurd (omega arith)
last_more (s ∷ all) zero last a within = cond-false (s.leaves + 1 == 0) None (Some last) (ne_eqb (s.leaves + 1) 0 (λ e. omega (arith, e)))
last_more (s ∷ all) (suc n) last a within = last_more all n last a (omega arith)

last_others : (all : List SeriesMeta) (n m last a : ℕ) → m ≢ n → last_of_series (with_leaf_at all n last a) m ≡ last_of_series all m
last_others [] n m last a other = refl
last_others (s ∷ all) zero zero last a other = absurd (other refl)
last_others (s ∷ all) zero (suc m) last a other = refl
last_others (s ∷ all) (suc n) zero last a other = refl
last_others (s ∷ all) (suc n) (suc m) last a other = last_others all n m last a (λ e. other (ap suc e))

-- each series keeps its last timestamp
pub last_entered : (f : Trees) (n m : ℕ) (g : Frame) (others : ℕ) (levels : List Lists) → AreTrees f → get_or f.frames n None ≡ Some g → last_known (with_entered f n g others levels) m ≡ last_known f m
last_entered f n m g others levels are is = elim (same_or_other m n) [
  | inl e ↦ ap (last_known (with_entered f n g others levels)) e ∙ here ∙ ap (last_known f) (sym e)
  | inr o ↦
      (let new : Frames = frames_of f.pool.count (without f.pool.used g.0) in
      ap (λ (frame : Option Frame). last_behind (last_of_series (meta_entered f.meta n ps others).series m) (leaf_in new frame)) (get_or-set_other f.frames n m None None o)
      ∙ ap₂ last_behind (last_others f.meta.series n m last a o)
      (leaf_kept f.pool new (get_or f.frames m None) (λ h at. given_leaf f.pool.used g.0 h.0 (frames_differ f.pool f.frames k n m g h are.pooled is at o))))
] where
  k : ℕ
  k = length f.meta.series

  ps : List Point
  ps = leaf_of f.pool.used g.0

  last : ℕ
  last = last_ts_from 0 ps

  a : ℕ
  a = spot f.meta.ordinals

  within : n < k
  within = framed_within f.pool f.frames k n g are.pooled is

  here : last_known (with_entered f n g others levels) n ≡ last_known f n
  here =
      let new : Frames = frames_of f.pool.count (without f.pool.used g.0) in
      ap (λ (frame : Option Frame). last_behind (last_of_series (meta_entered f.meta n ps others).series n) (leaf_in new frame)) (get_or-set_same f.frames n None None (omega (arith, within, are.pooled.number)))
      ∙ last_more f.meta.series n last a within
      ∙ sym (behind_some (last_of_series f.meta.series n) ps (leaf_some f.pool f.frames k n g are.pooled is))
      ∙ sym (ap (λ (frame : Option Frame). last_behind (last_of_series f.meta.series n) (leaf_in f.pool frame)) is)
