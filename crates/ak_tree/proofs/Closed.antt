-- What a leaf that is closed leaves of the others.
use Rattle.std.proofs.Common.{◌≡◌, ◌≢◌, inl, inr, ℕ, zero, suc, ◌+◌, ◌-◌, ◌*◌, ◌^◌, ◌<◌, ◌≤◌, ◌∙◌, List, [], ◌∷◌, ◌++◌, length, get_or, set, slice_set, Option, Some, None, true, false, refl, sym, ap, ap₂, subst, arith, mod-lt}
use Rattle.std.proofs.lemmas.Bool.{cases_eq, cond-false, ne_eqb, true≢false}
use Rattle.std.proofs.Math.Nat.{mul-le-mul_right}
use Rattle.std.proofs.lemmas.List.{get_or-set_same, get_or-set_other, get_or_read, length-map, length-set}
use Rattle.std.specs.List.{AllByRecursion}
use Rattle.std.specs.Prelude.{◌==◌, ◌%◌, slice_index, is_some}
use Rattle.ak_base.specs.Points.{last_ts_from}
use Rattle.ak_base.specs.declared.limits.Limits.{Limits}
use Rattle.ak_base.specs.declared.point.Point.{Point}
use Rattle.ak_base.specs.declared.stop.Stop.{Stop}
use Rattle.ak_gate.specs.Fits.{IsSized, Knows, Stands, Fits}
use Rattle.ak_gate.specs.View.{View as GateView}
use Rattle.ak_host.specs.Files.{Files, file_at}
use Rattle.ak_host.specs.Moments.{HostState, DiskPasses, LeavesNow}
use Rattle.ak_image.specs.Blocks.{AreThere, seen_in}
use Rattle.ak_host.proofs.Passing.{disk_now, disk_weaker}
use Rattle.ak_image.specs.Laid.{spot}
use Rattle.ak_levels.specs.Carries.{carry_of}
use Rattle.ak_meta.proofs.Closing.{leaves_there, leaves_most, some_leaves}
use Rattle.ak_meta.specs.Contents.{Content, IsMeta, names_of}
use Rattle.ak_meta.specs.Leaves.{with_leaf_at, closed_in, leaves_at}
use Rattle.ak_meta.specs.declared.meta.SeriesMeta.{SeriesMeta}
use Rattle.ak_pool.specs.Frames.{Frames, Used, AreNumbered, IsUsed, frames_of, leaf_of, series_of, without}
use Rattle.ak_pool.specs.declared.pool.Frame.{Frame}
use Rattle.ak_pool.proofs.Theirs.{given_leaf}
use Rattle.ak_pool.proofs.Uses.{unused, without_mid}
use Rattle.ak_checkpoint.specs.Saving.{Saving}
use Rattle.ak_inner.specs.declared.reference.Ref.{Ref}
use Rattle.ak_levels.specs.Closes.{leaf_ref, raised, taken, emptied, closed_lists}
use Rattle.ak_levels.specs.Entries.{AreLawful, IsTally}
use Rattle.ak_levels.specs.Pending.{Lists, AreLists, HasRoom, no_lists, pending_at, with_pending}
use Rattle.ak_levels.proofs.Closed.{closed_is, closed_lawful, emptied_length, free_at}
use Rattle.ak_levels.proofs.Digits.{carry_most}
use Rattle.ak_tree.specs.Standing.{Trees, AreTrees, IsReady, Keeps, Holds, HasPlaces, IsOpenLeaf, ArePooled, IsSameButPlaces, levels_at, bases_of, leaf_in, last_of_series, last_behind, last_known}
use Rattle.ak_tree.specs.Stops.{IsWornBy}
use Rattle.ak_tree.specs.Storing.{IsStored, LeavesView}
use Rattle.ak_tree.specs.Writing.{IsGroup, LeavesOutside}
use Rattle.ak_volumes.specs.Ordinals.{Ordinals, AreOrdinals, newest, newest_fill, file_of, filled}
use Rattle.ak_world.specs.Steps.{closed, closed_from, entered, group_of, leaves_in, with_room, written_in}
use Rattle.ak_world.specs.Valid.{Goes}
use Rattle.ak_world.specs.Worlds.{World, content_now, kept_now}
use Rattle.ak_world.proofs.ContentsOfLeaves.{leaves_known}
use Rattle.ak_world.proofs.Going.{same}
use Rattle.ak_tree.proofs.Framing.{as_many, behind_some}
use Rattle.ak_tree.proofs.Joining.{IsOnWay, enter_goes, room_goes, leaves_later, left_view, passes_both, passes_later}
use Rattle.ak_tree.specs.declared.writing.Group.{Group}
use Rattle.ak_tree.proofs.Groups.{group_at}
use Rattle.ak_tree.proofs.Outside.{room_at}
use Rattle.ak_tree.proofs.Placed.{IsLeafBlock, IsGroupOf, IsClosing, outside_left, stored_written}
use Rattle.ak_tree.proofs.Planted.{lawful_long, lawful_at}
use Rattle.ak_tree.proofs.Waiting.{with_places_for, places_stay, all_placed, set_at, set_twice}
use Rattle.ak_tree.proofs.Pooling.{IsFound, found_in, leaf_some}
use Rattle.ak_tree.proofs.Telling.{told_entered}
use Rattle.ak_tree.proofs.Wanted.{entered_keeps}

-- ---- Frames

-- one less
pub fewer_used : (count : ℕ) (us : List Used) (frame : ℕ) → AreNumbered count us → IsUsed us frame → suc (length (without us frame)) ≡ length us
fewer_used count [] frame are is = absurd is
fewer_used count (u ∷ us) frame are (inl here) =
    ap (λ (l : List Used). suc (length l)) (without_mid frame [] u us (subst (λ (f : ℕ). AllByRecursion (λ v. v.frame ≢ f) us) here are.1) here)
fewer_used count (u ∷ us) frame are (inr is) =
    let other : u.frame ≢ frame = λ e. unused u.frame us are.1 (subst (IsUsed us) (sym e) is) in
    ap (λ (l : List Used). suc (length l)) (left other) ∙ ap suc (fewer_used count us frame are.2 is)
  where
    left : u.frame ≢ frame → without (u ∷ us) frame ≡ u ∷ without us frame
    left other = rw (ne_eqb u.frame frame other) refl

-- ---- Last timestamps

last_here : (all : List SeriesMeta) (n last at : ℕ) → n < length all → last_of_series (with_leaf_at all n last at) n ≡ Some last
last_here [] n last at within = absurd (omega arith)
last_here (s ∷ all) zero last at within = cond-false (s.leaves + 1 == 0) None (Some last) (ne_eqb (s.leaves + 1) 0 (λ e. omega (arith, e)))
last_here (s ∷ all) (suc n) last at within = last_here all n last at (omega arith)

last_other : (all : List SeriesMeta) (n m last at : ℕ) → m ≢ n → last_of_series (with_leaf_at all n last at) m ≡ last_of_series all m
last_other [] n m last at other = refl
last_other (s ∷ all) zero zero last at other = absurd (other refl)
last_other (s ∷ all) zero (suc m) last at other = refl
last_other (s ∷ all) (suc n) zero last at other = refl
last_other (s ∷ all) (suc n) (suc m) last at other = last_other all n m last at (λ e. other (ap suc e))

-- the others' leaves
leaf_other : (used : List Used) (count n m : ℕ) (frame : Frame) (o : Option Frame) → series_of used frame.0 ≡ n → ((g : Frame) → o ≡ Some g → series_of used g.0 ≡ m) → m ≢ n
    → leaf_in (frames_of count (without used frame.0)) o ≡ leaf_in (frames_of count used) o
leaf_other used count n m frame None own theirs other = refl
leaf_other used count n m frame (Some g) own theirs other = given_leaf used frame.0 g.0 (λ e. other (sym (theirs g refl) ∙ ap (series_of used) e ∙ own))

-- no last timestamp changes where a leaf is closed
module _ (f : Trees) (n : ℕ) (frame : Frame) (at : ℕ) (are : ArePooled f.pool f.frames (length f.meta.series)) (within : n < length f.meta.series) (framed : get_or f.frames n None ≡ Some frame) where
  abbrev after_frames : List (Option Frame)
  after_frames = slice_set f.frames n None

  abbrev after_pool : Frames
  after_pool = frames_of f.pool.count (without f.pool.used frame.0)

  abbrev after_series : List SeriesMeta
  after_series = with_leaf_at f.meta.series n (last_ts_from 0 (leaf_of f.pool.used frame.0)) at

  own : last_behind (last_of_series after_series n) (leaf_in after_pool (get_or after_frames n None)) ≡ last_known f n
  own =
      let none : get_or (slice_set f.frames n None) n None ≡ None = get_or-set_same f.frames n None None (omega (arith, are.number, within)) in
      ap (λ (o : Option Frame). last_behind (last_of_series after_series n) (leaf_in after_pool o)) none
      ∙ last_here f.meta.series n (last_ts_from 0 (leaf_of f.pool.used frame.0)) at within
      ∙ sym (behind_some (last_of_series f.meta.series n) (leaf_of f.pool.used frame.0) (leaf_some f.pool f.frames (length f.meta.series) n frame are framed))
      ∙ ap (λ (o : Option Frame). last_behind (last_of_series f.meta.series n) (leaf_in f.pool o)) (sym framed)

  last_same : (m : ℕ) → last_behind (last_of_series after_series m) (leaf_in after_pool (get_or after_frames m None)) ≡ last_known f m
  last_same m = elim (cases_eq m n) [
    | inl here ↦ subst (λ (k : ℕ). last_behind (last_of_series after_series k) (leaf_in after_pool (get_or after_frames k None)) ≡ last_known f k) (sym here) own
    | inr other ↦
        let same : get_or (slice_set f.frames n None) m None ≡ get_or f.frames m None = get_or-set_other f.frames n m None None other in
        let leaf : leaf_in after_pool (get_or f.frames m None) ≡ leaf_in f.pool (get_or f.frames m None) =
        leaf_other f.pool.used f.pool.count n m frame (get_or f.frames m None) (are.framed n frame framed).1 (λ g e. (are.framed m g e).1) other in
        ap₂ last_behind (last_other f.meta.series n m (last_ts_from 0 (leaf_of f.pool.used frame.0)) at other) (ap (leaf_in after_pool) same ∙ leaf)
  ]

  pub last_closed : (new : Trees) → new.meta.series ≡ after_series → new.pool ≡ after_pool → new.frames ≡ after_frames → (m : ℕ) → last_known new m ≡ last_known f m
  last_closed new series pool frames m =
      ap (λ (all : List SeriesMeta). last_behind (last_of_series all m) (leaf_in new.pool (get_or new.frames m None))) series
      ∙ ap (λ (p : Frames). last_behind (last_of_series after_series m) (leaf_in p (get_or new.frames m None))) pool
      ∙ ap (λ (l : List (Option Frame)). last_behind (last_of_series after_series m) (leaf_in after_pool (get_or l m None))) frames
      ∙ last_same m

-- the frame that was found
pub framed_is : (frames known : List (Option Frame)) (n : ℕ) (found : Option Frame) (frame : Frame) → frames ≡ known → n < length known → found ≡ get_or frames n found → found ≡ Some frame → get_or known n None ≡ Some frame
framed_is frames known n found frame same within is some =
    sym (get_or_read known n found within (is ∙ ap (λ (l : List (Option Frame)). get_or l n found) same) None) ∙ some

pub framed_none : (frames known : List (Option Frame)) (n : ℕ) (found : Option Frame) → frames ≡ known → n < length known → found ≡ get_or frames n found → found ≡ None → get_or known n None ≡ None
framed_none frames known n found same within is none =
    sym (get_or_read known n found within (is ∙ ap (λ (l : List (Option Frame)). get_or l n found) same) None) ∙ none

-- ---- Groups

pub others_of : (all known : List SeriesMeta) (n others : ℕ) (d : SeriesMeta) → all ≡ known → n < length known → others ≡ carry_of (get_or all n d).leaves → others ≡ carry_of (leaves_at known n)
others_of all known n others d same within is =
    is ∙ ap carry_of (ap (λ (l : List SeriesMeta). (get_or l n d).leaves) same ∙ sym (leaves_there known n d within))

-- there are fewer leaves than blocks
pub known_few : (all : List SeriesMeta) (c : Content) (n : ℕ) (d : SeriesMeta) → all ≡ c.series → IsMeta c → n < length c.series → (get_or all n d).leaves < 2 ^ 53
known_few all c n d same is within =
    subst (λ (l : List SeriesMeta). (get_or l n d).leaves < 2 ^ 53) (sym same) (omega (arith, leaves_there c.series n d within, leaves_most c n is))

pub names_closed : (all : List SeriesMeta) (n last at : ℕ) → names_of (with_leaf_at all n last at) ≡ names_of all
names_closed [] n last at = refl
names_closed (s ∷ all) zero last at = refl
names_closed (s ∷ all) (suc n) last at = ap (λ (l : List (List ℕ)). s.name ∷ l) (names_closed all n last at)

-- ---- The world

pub within_world : (w : World) (f : Trees) (n : ℕ) → Keeps w f → n < length f.meta.series → n < length w.series
within_world w f n keeps within = omega (arith, within, as_many w f keeps)

pub same_leaves : (w : World) (f : Trees) (n : ℕ) → Keeps w f → n < length f.meta.series → leaves_at f.meta.series n ≡ leaves_in w.series n
same_leaves w f n keeps within =
    ap (λ (c : Content). leaves_at c.series n) keeps.content_is ∙ leaves_known w.opened.content.series w.series n (within_world w f n keeps within)

-- the group's blocks
pub group_blocks : (w : World) (f : Trees) (n others : ℕ) → Keeps w f → n < length f.meta.series → others ≡ carry_of (leaves_at f.meta.series n) → 1 + others ≡ group_of w n
group_blocks w f n others keeps within is = ap (λ (k : ℕ). 1 + k) (is ∙ ap carry_of (same_leaves w f n keeps within))

-- a frame has the points of its series
pub leaf_is : (w : World) (f : Trees) (n count : ℕ) (frame : Frame) → ArePooled f.pool f.frames count → Keeps w f → get_or f.frames n None ≡ Some frame → leaf_of f.pool.used frame.0 ≡ written_in w.series n
leaf_is w f n count frame are keeps is =
    let framed = are.framed n frame is in
    let found : IsFound (λ (u : Used). written_in w.series u.series ≡ u.leaf) f.pool.used frame.0 = found_in (λ (u : Used). written_in w.series u.series ≡ u.leaf) f.pool.used frame.0 keeps.open_leaves framed.0 in
    found.leaf ∙ sym found.known ∙ ap (written_in w.series) (sym found.series ∙ framed.1)

-- the group that was written, by the record
pub group_here : (c : Content) (n file index : ℕ) (g : Group) (ps : List Point) (u : Lists) (block : List ℕ) (old new : Files) → g ≡ group_at c n ps → file ≡ file_of c.ordinals (newest c.ordinals) → index ≡ newest_fill c.ordinals
    → IsGroup file index g u block old new → IsGroupOf c n ps u block old new
group_here c n file index g ps u block old new group_is file_is index_is group =
    subst (λ (k : ℕ). IsGroup (file_of c.ordinals (newest c.ordinals)) k (group_at c n ps) u block old new) index_is
    (subst (λ (k : ℕ). IsGroup k index (group_at c n ps) u block old new) file_is (subst (λ (h : Group). IsGroup file index h u block old new) group_is group))

-- a leaf is closed, whose group has a place
module _ (v : World) (f : Trees) (n file index : ℕ) (g : Group) (frame : Frame) (are : AreTrees f) (within : n < length f.meta.series) (framed : get_or f.frames n None ≡ Some frame)
    (group_is : g ≡ group_at f.meta n (leaf_of f.pool.used frame.0)) (file_is : file ≡ file_of f.meta.ordinals (newest f.meta.ordinals)) (index_is : index ≡ newest_fill f.meta.ordinals)
    (room : newest_fill f.meta.ordinals + (1 + carry_of (leaves_at f.meta.series n)) ≤ f.meta.ordinals.blocks) where
  closing_is : Keeps v f → IsClosing v n
  closing_is keeps =
      let fits : newest_fill f.meta.ordinals + group_of v n ≤ f.meta.ordinals.blocks =
      subst (λ (k : ℕ). newest_fill f.meta.ordinals + k ≤ f.meta.ordinals.blocks) (group_blocks v f n (carry_of (leaves_at f.meta.series n)) keeps within refl) room in
      record {
        valid = keeps.valid;
        fresh = keeps.not_worn;
        rules = subst IsMeta keeps.content_is are.rules_are;
        within = within_world v f n keeps within;
        some = λ e. leaf_some f.pool f.frames (length f.meta.series) n frame are.pooled framed (leaf_is v f n (length f.meta.series) frame are.pooled keeps framed ∙ e);
        room = subst (λ (c : Content). newest_fill c.ordinals + group_of v n ≤ c.ordinals.blocks) keeps.content_is fits;
      }

  leaf_block_is : (block : List ℕ) → Keeps v f → IsLeafBlock block f.meta n (leaf_of f.pool.used frame.0) → IsLeafBlock block (content_now v) n (written_in v.series n)
  leaf_block_is block keeps is =
      subst (λ (c : Content). IsLeafBlock block c n (written_in v.series n)) keeps.content_is
      (subst (λ (ps : List Point). IsLeafBlock block f.meta n ps) (leaf_is v f n (length f.meta.series) frame are.pooled keeps framed) is)

  same_group : (u : Lists) (block : List ℕ) (old new : Files) → Keeps v f → IsGroup file index g u block old new → IsGroupOf (content_now v) n (written_in v.series n) u block old new
  same_group u block old new keeps group =
      subst (λ (c : Content). IsGroupOf c n (written_in v.series n) u block old new) keeps.content_is
      (subst (λ (ps : List Point). IsGroupOf f.meta n ps u block old new) (leaf_is v f n (length f.meta.series) frame are.pooled keeps framed)
      (group_here f.meta n file index g (leaf_of f.pool.used frame.0) u block old new group_is file_is index_is group))

  same_run : (old new : HostState) → Keeps v f → DiskPasses (LeavesOutside file index (1 + g.others) old) old new
      → DiskPasses (LeavesOutside (file_of v.ordinals (newest v.ordinals)) (newest_fill v.ordinals) (1 + carry_of (leaves_at (content_now v).series n)) old) old new
  same_run old new keeps run =
      subst (λ (c : Content). DiskPasses (LeavesOutside (file_of c.ordinals (newest c.ordinals)) (newest_fill c.ordinals) (1 + carry_of (leaves_at c.series n)) old) old new) keeps.content_is
      (subst (λ (k : ℕ). DiskPasses (LeavesOutside (file_of f.meta.ordinals (newest f.meta.ordinals)) k (1 + carry_of (leaves_at f.meta.series n)) old) old new) index_is
      (subst (λ (k : ℕ). DiskPasses (LeavesOutside k index (1 + carry_of (leaves_at f.meta.series n)) old) old new) file_is
      (subst (λ (h : Group). DiskPasses (LeavesOutside file index (1 + h.others) old) old new) group_is run)))

  -- what waits then, by the world
  waits_is : Keeps v f → closed_lists (levels_at f n) (leaves_at f.meta.series n) (leaf_ref (spot f.meta.ordinals) (leaf_of f.pool.used frame.0))
      ≡ closed_lists (levels_at f n) (leaves_at (content_now v).series n) (leaf_ref (spot v.ordinals) (written_in v.series n))
  waits_is keeps =
      ap (λ (ps : List Point). closed_lists (levels_at f n) (leaves_at f.meta.series n) (leaf_ref (spot f.meta.ordinals) ps)) (leaf_is v f n (length f.meta.series) frame are.pooled keeps framed)
      ∙ ap (λ (c : Content). closed_lists (levels_at f n) (leaves_at c.series n) (leaf_ref (spot c.ordinals) (written_in v.series n))) keeps.content_is

  pub entered_holds : (new : Trees) (block : List ℕ) (old host : HostState) → Holds v f old → IsLeafBlock block f.meta n (leaf_of f.pool.used frame.0) → IsGroup file index g (levels_at f n) block old.files host.files
      → DiskPasses (LeavesOutside file index (1 + g.others) old) old host → length (levels_at f n).pending ≡ 11
      → new.meta ≡ closed_in (record f.meta { ordinals = filled f.meta.ordinals (1 + carry_of (leaves_at f.meta.series n)) }) n (last_ts_from 0 (leaf_of f.pool.used frame.0)) (spot f.meta.ordinals)
      → new.pool ≡ frames_of f.pool.count (without f.pool.used frame.0) → new.frames ≡ slice_set f.frames n None
      → new.levels ≡ set f.levels n (closed_lists (levels_at f n) (leaves_at f.meta.series n) (leaf_ref (spot f.meta.ordinals) (leaf_of f.pool.used frame.0))) → new.check ≡ f.check → new.since ≡ f.since + 1
      → Holds (entered v n (group_of v n)) new host
  entered_holds new block old host holds leaf group run long meta pool frames levels check since =
      let keeps = holds.keeps in
      let lawful : AreLawful (leaves_at (content_now v).series n) (levels_at f n) = subst (λ (c : Content). AreLawful (leaves_at c.series n) (levels_at f n)) keeps.content_is (lawful_at f.meta.series f.levels n are.lawful within) in
      let stored = stored_written v n (closing_is keeps) block old host f.levels (leaf_block_is block keeps leaf) (same_group (levels_at f n) block old.files host.files keeps group) lawful long (same_run old host keeps run) holds.stored in
      let u : World = entered v n (group_of v n) in
      record {
        keeps = entered_keeps v f new n (carry_of (leaves_at f.meta.series n)) frame are keeps within framed refl room meta pool frames check since;
        stored = subst (λ (l : List Lists). IsStored u.last (content_now u) (kept_now u) (bases_of u) l (file_of u.ordinals (newest u.ordinals)) host) (sym (levels ∙ ap (set f.levels n) (waits_is keeps))) stored;
      }

  -- while it is written, a stop leaves the last view
  pub entered_passes : (w : World) (start old host : HostState) (blocks : ℕ) → Holds v f old → Goes w v → DiskPasses (LeavesView w v) start old → DiskPasses (LeavesOutside file index (1 + g.others) old) old host → DiskPasses (LeavesView w (entered v n blocks)) start host
  entered_passes w start old host blocks holds goes before run =
      let o = v.ordinals in
      let is = holds.keeps.valid in
      let later : Goes v (entered v n blocks) = enter_goes v n blocks in
      let volumes : v.last.content.limits.volumes ≡ o.volumes = ap (λ (l : Limits). l.volumes) is.limits_are ∙ sym is.volumes in
      let same : v.last.content.limits.volumes ≡ (content_now v).limits.volumes = ap (λ (l : Limits). l.volumes) holds.stored.limits_are in
      let count = 1 + carry_of (leaves_at (content_now v).series n) in
      passes_both w v (entered v n blocks) start old host goes later before
      (disk_weaker (same_run old host holds.keeps run) (λ disk from.
      leaves_later v v (entered v n blocks) disk later
      (left_view v (content_now v).limits.volumes (file_of o (newest o)) old.files disk holds.stored.rules_are same holds.stored.saved
      (outside_left v.last o count is.lawful volumes is.behind.live old holds.stored.left disk from))))

-- a world that is worn where the group has no place
pub closed_worn : (w : World) (n blocks : ℕ) (s : Stop) → blocks ≡ group_of w n → IsWornBy (with_room w blocks) s → IsWornBy (closed w n) s
closed_worn w n blocks s is told =
    told_entered (with_room w (group_of w n)) n (group_of w n) s (subst (λ (k : ℕ). IsWornBy (with_room w k) s) is told)

-- while room is made
pub closed_early : (w : World) (n blocks : ℕ) (old new : HostState) → blocks ≡ group_of w n → DiskPasses (LeavesView w (with_room w blocks)) old new → DiskPasses (LeavesView w (closed w n)) old new
closed_early w n blocks old new is run =
    passes_later w (with_room w (group_of w n)) (closed w n) old new (enter_goes (with_room w (group_of w n)) n (group_of w n))
    (subst (λ (k : ℕ). DiskPasses (LeavesView w (with_room w k)) old new) is run)

-- the leaf is closed, where room stands for the forest whose newest ordinal has a place for the group
module _ (w : World) (f room : Trees) (n others file index : ℕ) (g : Group) (frame : Frame) (start mid : HostState) (holds : Holds w f start) (are : AreTrees room) (same : room.meta.series ≡ f.meta.series)
    (within : n < length f.meta.series) (framed : get_or room.frames n None ≡ Some frame) (others_is : others ≡ carry_of (leaves_at f.meta.series n)) (made : g ≡ group_at room.meta n (leaf_of room.pool.used frame.0))
    (file_is : file ≡ file_of room.meta.ordinals (newest room.meta.ordinals)) (index_is : index ≡ newest_fill room.meta.ordinals) (fits : newest_fill room.meta.ordinals + (1 + others) ≤ room.meta.ordinals.blocks)
    (roomed : Holds (with_room w (1 + others)) room mid) where
  inside : n < length room.meta.series
  inside = subst (λ (all : List SeriesMeta). n < length all) (sym same) within

  others_here : others ≡ carry_of (leaves_at room.meta.series n)
  others_here = others_is ∙ ap (λ (all : List SeriesMeta). carry_of (leaves_at all n)) (sym same)

  fits_here : newest_fill room.meta.ordinals + (1 + carry_of (leaves_at room.meta.series n)) ≤ room.meta.ordinals.blocks
  fits_here = subst (λ (k : ℕ). newest_fill room.meta.ordinals + (1 + k) ≤ room.meta.ordinals.blocks) others_here fits

  blocks_is : 1 + others ≡ group_of w n
  blocks_is = group_blocks w f n others holds.keeps within others_is

  same_blocks : group_of (with_room w (1 + others)) n ≡ group_of w n
  same_blocks = sym (group_blocks (with_room w (1 + others)) room n others roomed.keeps inside others_here) ∙ blocks_is

  pub closed_passes : (host : HostState) → DiskPasses (LeavesView w (with_room w (1 + others))) start mid → DiskPasses (LeavesOutside file index (1 + g.others) mid) mid host → DiskPasses (LeavesView w (closed w n)) start host
  closed_passes host before run =
      subst (λ (k : ℕ). DiskPasses (LeavesView w (entered (with_room w k) n (group_of w n))) start host) blocks_is
      (entered_passes (with_room w (1 + others)) room n file index g frame are inside framed made file_is index_is fits_here w start mid host (group_of w n) roomed (room_goes w (1 + others)) before run)

  pub closed_holds : (new : Trees) (block : List ℕ) (host : HostState) → IsLeafBlock block room.meta n (leaf_of room.pool.used frame.0) → IsGroup file index g (levels_at room n) block mid.files host.files
      → DiskPasses (LeavesOutside file index (1 + g.others) mid) mid host → length (levels_at room n).pending ≡ 11
      → new.meta ≡ closed_in (record room.meta { ordinals = filled room.meta.ordinals (1 + others) }) n (last_ts_from 0 (leaf_of room.pool.used frame.0)) (spot room.meta.ordinals)
      → new.pool ≡ frames_of room.pool.count (without room.pool.used frame.0) → new.frames ≡ slice_set room.frames n None
      → new.levels ≡ set room.levels n (closed_lists (levels_at room n) (leaves_at room.meta.series n) (leaf_ref (spot room.meta.ordinals) (leaf_of room.pool.used frame.0))) → new.check ≡ room.check → new.since ≡ room.since + 1
      → Holds (closed w n) new host
  closed_holds new block host leaf group run long meta pool frames levels check since =
      let last = last_ts_from 0 (leaf_of room.pool.used frame.0) in
      let meta_is = meta ∙ ap (λ (k : ℕ). closed_in (record room.meta { ordinals = filled room.meta.ordinals (1 + k) }) n last (spot room.meta.ordinals)) others_here in
      let entered_is = entered_holds (with_room w (1 + others)) room n file index g frame are inside framed made file_is index_is fits_here new block mid host roomed leaf group run long meta_is pool frames levels check since in
      subst (λ (k : ℕ). Holds (entered (with_room w k) n (group_of w n)) new host) blocks_is
      (subst (λ (k : ℕ). Holds (entered (with_room w (1 + others)) n k) new host) same_blocks entered_is)

-- ---- What waits

-- what waits once the leaf is entered, where w waited when its group was written
pub waits_closed : (levels mid : List Lists) (n m others : ℕ) (leaf above : Ref) (w : Lists) → n < length levels → mid ≡ set levels n w → w ≡ emptied (get_or levels n no_lists) others → above ≡ raised (get_or levels n no_lists) leaf others
    → others ≡ carry_of m → with_pending (get_or mid n no_lists) others (pending_at (get_or mid n no_lists) others ++ above ∷ []) ≡ closed_lists (get_or levels n no_lists) m leaf
waits_closed levels mid n m others leaf above w within is below here top =
    let read : get_or mid n no_lists ≡ w = ap (λ (l : List Lists). get_or l n no_lists) is ∙ set_at levels n w within in
    closed_is (get_or levels n no_lists) (get_or mid n no_lists) (with_pending (get_or mid n no_lists) others (pending_at (get_or mid n no_lists) others ++ above ∷ [])) m leaf above others top (read ∙ below) here refl

pub levels_closed : (levels mid new : List Lists) (n : ℕ) (w u v : Lists) → mid ≡ set levels n w → u ≡ v → new ≡ set mid n u → new ≡ set levels n v
levels_closed levels mid new n w u v is same after = after ∙ ap₂ (λ (l : List Lists) (x : Lists). set l n x) is same ∙ set_twice levels n w v

-- there were as many levels before
pub long_before : (levels new : List Lists) (n m : ℕ) (leaf : Ref) → n < length levels → new ≡ set levels n (closed_lists (get_or levels n no_lists) m leaf) → AreLists (get_or new n no_lists) → length (get_or levels n no_lists).pending ≡ 11
long_before levels new n m leaf within is are =
    let v : Lists = get_or levels n no_lists in
    let read : get_or new n no_lists ≡ closed_lists v m leaf = ap (λ (l : List Lists). get_or l n no_lists) is ∙ set_at levels n (closed_lists v m leaf) within in
    sym (emptied_length v (carry_of m)) ∙ sym (length-set (emptied v (carry_of m)).pending (carry_of m) (taken v leaf (carry_of m))) ∙ sym (ap (λ (u : Lists). length u.pending) read) ∙ are.levels

-- the levels that a leaf pushes to have room where they have places
pub room_here : (f : Trees) (n k : ℕ) → AreTrees f → n < length f.meta.series → HasPlaces f n → k ≤ carry_of (leaves_at f.meta.series n) → HasRoom (levels_at f n) k
room_here f n k are within has few = record {
  placed = has k few;
  free = free_at (levels_at f n) (leaves_at f.meta.series n) k (lawful_at f.meta.series f.levels n are.lawful within) (omega (arith, few, carry_most (leaves_at f.meta.series n)));
}

-- the world is held also where levels have got places
pub holds_placed : (w : World) (f g : Trees) (host : HostState) → IsSameButPlaces f g → Holds w f host → Holds w g host
holds_placed w f g host same holds =
    let keeps = holds.keeps in
    let stored = holds.stored in
    let placed : Holds w (record f { levels = g.levels }) host = record {
      keeps = record {
        not_worn = keeps.not_worn;
        valid = keeps.valid;
        content_is = keeps.content_is;
        since_is = keeps.since_is;
        number_is = keeps.number_is;
        recent_is = keeps.recent_is;
        open_leaves = keeps.open_leaves;
        others = keeps.others;
      };
      stored = record {
        rules_are = stored.rules_are;
        limits_are = stored.limits_are;
        laid = stored.laid;
        planted = all_placed w.ordinals (seen_in (content_now w).limits.volumes host.files) 0 (content_now w).series (kept_now w) (bases_of w) f.levels g.levels same.pending stored.planted;
        saved = stored.saved;
        left = stored.left;
      };
    } in
    subst (λ (t : Trees). Holds w t host) (sym same.others) placed

-- The levels of a series have places, and room was made.
pub record IsRoomed (f room : Trees) (n : ℕ) (frame : Frame) : Type 0 where
  pub series : room.meta.series ≡ f.meta.series
  pub within : n < length room.meta.series
  pub long : n < length room.levels
  pub framed : get_or room.frames n None ≡ Some frame
  pub pool : room.pool ≡ f.pool
  pub lawful : AreLawful (leaves_at room.meta.series n) (levels_at room n)
  pub room_for : (k : ℕ) → k ≤ carry_of (leaves_at room.meta.series n) → HasRoom (levels_at room n) k

pub is_roomed : (f one room : Trees) (n : ℕ) (frame : Frame) → one ≡ with_places_for f n → HasPlaces one n → room ≡ record one { meta = record one.meta { ordinals = room.meta.ordinals }; check = room.check; since = room.since } → AreTrees room
    → n < length f.meta.series → get_or f.frames n None ≡ Some frame → IsRoomed f room n frame
is_roomed f one room n frame placed has same are within framed =
    let series : room.meta.series ≡ f.meta.series = ap (λ (t : Trees). t.meta.series) same ∙ ap (λ (t : Trees). t.meta.series) placed in
    let inside : n < length room.meta.series = subst (λ (all : List SeriesMeta). n < length all) (sym series) within in
    let places : HasPlaces room n = places_stay one room n (ap (λ (t : Trees). levels_at t n) same) (ap (λ (t : Trees). leaves_at t.meta.series n) same) has in
    record {
      series = series;
      within = inside;
      long = omega (arith, inside, lawful_long room.meta.series room.levels are.lawful);
      framed = ap (λ (t : Trees). get_or t.frames n None) same ∙ ap (λ (t : Trees). get_or t.frames n None) placed ∙ framed;
      pool = ap (λ (t : Trees). t.pool) same ∙ ap (λ (t : Trees). t.pool) placed;
      lawful = lawful_at room.meta.series room.levels n are.lawful inside;
      room_for = λ k few. room_here room n k are inside places few;
    }

-- there is a block for one leaf more
leaves_next : (c : Content) (n : ℕ) → IsMeta c → newest_fill c.ordinals + (1 + carry_of (leaves_at c.series n)) ≤ c.ordinals.blocks → leaves_at c.series n + 1 ≤ 2 ^ 52
leaves_next c n is fits =
    let o : Ordinals = c.ordinals in
    let ordinals : newest o * o.blocks ≤ (2 ^ 32 - 1) * o.blocks = mul-le-mul_right o.blocks (let e : newest o ≤ 2 ^ 32 - 1 = omega (arith, is.ordinals_are.last) in e) in
    omega (arith, ordinals, fits, is.limits_are.blocks_most, is.blocks, is.total, some_leaves c.series n)

-- what waits of a series once its leaf is entered is lawful
pub waits_lawful : (f : Trees) (n : ℕ) (leaf : Ref) → AreTrees f → n < length f.meta.series → AreLawful (leaves_at f.meta.series n) (levels_at f n) → ((k : ℕ) → k ≤ carry_of (leaves_at f.meta.series n) → HasRoom (levels_at f n) k) → IsTally 0 leaf
    → newest_fill f.meta.ordinals + (1 + carry_of (leaves_at f.meta.series n)) ≤ f.meta.ordinals.blocks → AreLawful (leaves_at f.meta.series n + 1) (closed_lists (levels_at f n) (leaves_at f.meta.series n) leaf)
waits_lawful f n leaf are within lawful room tally fits =
    let m = leaves_at f.meta.series n in
    let next : suc m ≡ m + 1 = omega arith in
    subst (λ (k : ℕ). AreLawful k (closed_lists (levels_at f n) m leaf)) next (closed_lawful (levels_at f n) m leaf (omega (arith, leaves_next f.meta n are.rules_are fits)) lawful tally room)

-- the frame of a series that was found
pub frame_found : (f : Trees) (n : ℕ) (frames : List (Option Frame)) (found : Option Frame) (frame : Frame) → AreTrees f → frames ≡ f.frames → n < length f.meta.series → found ≡ get_or frames n found → found ≡ Some frame → get_or f.frames n None ≡ Some frame
frame_found f n frames found frame are same within is some = framed_is frames f.frames n found frame same (omega (arith, are.pooled.number, within)) is some

-- ---- A leaf that is entered where this waited as its group was written

pub enter_place : (f : Trees) (n others : ℕ) (w : Lists) → n < length f.levels → w ≡ emptied (levels_at f n) others → HasRoom (levels_at f n) others → HasRoom (levels_at (record f { levels = set f.levels n w }) n) others
enter_place f n others w within below room = subst (λ (u : Lists). HasRoom u others) (sym (set_at f.levels n w within)) (room_at (levels_at f n) w others below room)

pub enter_lawful : (f : Trees) (n others : ℕ) (leaf above : Ref) (w : Lists) → AreTrees f → n < length f.meta.series → n < length f.levels → AreLawful (leaves_at f.meta.series n) (levels_at f n)
    → ((k : ℕ) → k ≤ carry_of (leaves_at f.meta.series n) → HasRoom (levels_at f n) k) → IsTally 0 leaf → newest_fill f.meta.ordinals + (1 + others) ≤ f.meta.ordinals.blocks → others ≡ carry_of (leaves_at f.meta.series n) → w ≡ emptied (levels_at f n) others → above ≡ raised (levels_at f n) leaf others
    → AreLawful (leaves_at f.meta.series n + 1)
    (with_pending (levels_at (record f { levels = set f.levels n w }) n) others (pending_at (levels_at (record f { levels = set f.levels n w }) n) others ++ above ∷ []))
enter_lawful f n others leaf above w are within long lawful room tally fits top below here =
    subst (AreLawful (leaves_at f.meta.series n + 1)) (sym (waits_closed f.levels (set f.levels n w) n (leaves_at f.meta.series n) others leaf above w long refl below here top)) (waits_lawful f n leaf are within lawful room tally (omega (arith, fits, top)))

-- The forest after it is entered, by the one before its group was written.
pub record IsAfter (room new : Trees) (n others : ℕ) (frame : Frame) : Type 0 where
  pub meta : new.meta ≡ closed_in (record room.meta { ordinals = filled room.meta.ordinals (1 + others) }) n (last_ts_from 0 (leaf_of room.pool.used frame.0)) (spot room.meta.ordinals)
  pub pool : new.pool ≡ frames_of room.pool.count (without room.pool.used frame.0)
  pub frames : new.frames ≡ slice_set room.frames n None
  pub levels : new.levels ≡ set room.levels n (closed_lists (levels_at room n) (leaves_at room.meta.series n) (leaf_ref (spot room.meta.ordinals) (leaf_of room.pool.used frame.0)))
  pub long : length (levels_at room n).pending ≡ 11
  pub check : new.check ≡ room.check
  pub since : new.since ≡ room.since + 1

pub is_after : (f room new : Trees) (n others : ℕ) (frame : Frame) (leaf above : Ref) (w : Lists) → f ≡ room → n < length room.levels → others ≡ carry_of (leaves_at room.meta.series n)
    → leaf ≡ leaf_ref (spot room.meta.ordinals) (leaf_of room.pool.used frame.0) → w ≡ emptied (levels_at room n) others → above ≡ raised (levels_at room n) leaf others
    → new.meta ≡ closed_in (record f.meta { ordinals = filled f.meta.ordinals (1 + others) }) n (last_ts_from 0 (leaf_of f.pool.used frame.0)) (spot f.meta.ordinals)
    → new.pool ≡ frames_of f.pool.count (without f.pool.used frame.0) → new.frames ≡ slice_set f.frames n None
    → new.levels ≡ set (set f.levels n w) n (with_pending (get_or (set f.levels n w) n no_lists) others (pending_at (get_or (set f.levels n w) n no_lists) others ++ above ∷ [])) → AreLists (levels_at new n)
    → new.check ≡ f.check → new.since ≡ f.since + 1 → IsAfter room new n others frame
is_after f room new n others frame leaf above w same within top leaf_is below here meta pool frames levels valid check since =
    let m = leaves_at room.meta.series n in
    let next : Ref = leaf_ref (spot room.meta.ordinals) (leaf_of room.pool.used frame.0) in
    let mid : List Lists = set room.levels n w in
    let after : new.levels ≡ set mid n (with_pending (get_or mid n no_lists) others (pending_at (get_or mid n no_lists) others ++ above ∷ [])) =
    subst (λ (t : Trees). new.levels ≡ set (set t.levels n w) n (with_pending (get_or (set t.levels n w) n no_lists) others (pending_at (get_or (set t.levels n w) n no_lists) others ++ above ∷ []))) same levels in
    let closes = waits_closed room.levels mid n m others leaf above w within refl below here top ∙ ap (closed_lists (levels_at room n) m) leaf_is in
    let all : new.levels ≡ set room.levels n (closed_lists (levels_at room n) m next) = levels_closed room.levels mid new.levels n w _ (closed_lists (levels_at room n) m next) refl closes after in
    record {
      meta = subst (λ (t : Trees). new.meta ≡ closed_in (record t.meta { ordinals = filled t.meta.ordinals (1 + others) }) n (last_ts_from 0 (leaf_of t.pool.used frame.0)) (spot t.meta.ordinals)) same meta;
      pool = subst (λ (t : Trees). new.pool ≡ frames_of t.pool.count (without t.pool.used frame.0)) same pool;
      frames = subst (λ (t : Trees). new.frames ≡ slice_set t.frames n None) same frames;
      levels = all;
      long = long_before room.levels new.levels n m next within all valid;
      check = check ∙ ap (λ (t : Trees). t.check) same;
      since = since ∙ ap (λ (t : Trees). t.since + 1) same;
    }

-- the group fits the file
pub index_fits : (o : Ordinals) (host : HostState) (file index blocks : ℕ) → AreOrdinals o → AreThere o host → file ≡ file_of o (newest o) → index ≡ newest_fill o → newest_fill o + blocks ≤ o.blocks → index + blocks ≤ slice_index host.sizes file
index_fits o host file index blocks are there file_is index_is fits =
    let volumes : 0 < o.volumes = omega (arith, are.some, are.most) in
    let low : newest o % o.volumes < o.volumes = mod-lt (newest o) volumes in
    omega (arith, index_is, fits, there.each file (omega (arith, file_is)) (omega (arith, file_is, low)))

-- ---- Readiness

pub sized_same : (slot : ℕ) (old new : HostState) → new.sizes ≡ old.sizes → IsSized slot old → IsSized slot new
sized_same slot old new same is = record {
  there = subst (λ (sizes : List ℕ). 0 < length sizes) (sym same) is.there;
  blocks = ap (λ (sizes : List ℕ). slice_index sizes 0) same ∙ is.blocks;
  small = is.small;
}

pub there_same : (o p : Ordinals) (old new : HostState) → p.volumes ≡ o.volumes → p.blocks ≡ o.blocks → new.sizes ≡ old.sizes → AreThere o old → AreThere p new
there_same o p old new volumes blocks same are = record {
  number = subst (λ (sizes : List ℕ). p.volumes < length sizes) (sym same) (subst (λ (k : ℕ). k < length old.sizes) (sym volumes) are.number);
  each = λ file from to.
      let here : o.blocks ≤ slice_index old.sizes file = are.each file from (subst (λ (k : ℕ). file ≤ k) volumes to) in
      subst (λ (sizes : List ℕ). p.blocks ≤ slice_index sizes file) (sym same) (subst (λ (k : ℕ). k ≤ slice_index old.sizes file) (sym blocks) here);
}

-- blocks of a volume change nothing of file 0
pub fits_outside : (gate : GateView) (file index count : ℕ) (g : Group) (u : Lists) (block : List ℕ) (old new : HostState) → 1 ≤ file → IsGroup file index g u block old.files new.files → DiskPasses (LeavesOutside file index count old) old new
    → Fits gate old → Fits gate new
fits_outside gate file index count g u block old new volume group run fits =
    let ne : 0 ≢ file = λ e. omega (arith, e, volume) in
    let same : file_at new.files 0 ≡ file_at old.files 0 = group.outside.files 0 ne in
    let left : (disk : Files) → LeavesNow new disk → Stands gate (file_at old.files 0) (file_at disk 0) =
    disk_now (disk_weaker run (λ disk from. subst (λ (l : List (List ℕ)). Stands gate (file_at old.files 0) l) (sym (from.outside.files 0 ne)) (fits.stands from.before from.left))) fits.stands in
    record {
      knows = subst (Knows gate) (sym same) fits.knows;
      stands = λ disk now. subst (λ (l : List (List ℕ)). Stands gate l (file_at disk 0)) (sym same) (left disk now);
    }

pub ready_same : (told : Type 0) (f new : Trees) (old host : HostState) → new.check ≡ f.check → new.meta.ordinals.volumes ≡ f.meta.ordinals.volumes → new.meta.ordinals.blocks ≡ f.meta.ordinals.blocks → host.sizes ≡ old.sizes
    → (told → Fits f.check.gate old → Fits f.check.gate host) → IsReady told f old → IsReady told new host
ready_same told f new old host check volumes blocks sizes fits ready = record {
  whole = ap (λ (s : Saving). s.gate.broken) check ∙ ready.whole;
  opened = ap (λ (s : Saving). s.gate.is_open) check ∙ ready.opened;
  none_pending = ap (λ (s : Saving). s.pending) check ∙ ready.none_pending;
  number = ap (λ (s : Saving). s.number) check ∙ ready.number ∙ ap (λ (s : Saving). s.gate.number) (sym check);
  sized = subst (λ (s : Saving). IsSized s.gate.slot host) (sym check) (sized_same f.check.gate.slot old host sizes ready.sized);
  there = there_same f.meta.ordinals new.meta.ordinals old host volumes blocks sizes ready.there;
  fits = λ is. subst (λ (s : Saving). Fits s.gate host) (sym check) (fits is (ready.fits is));
}

-- ---- All of them

-- readiness stays where levels get places
pub ready_placed : (told : Type 0) (f g : Trees) (host : HostState) → IsSameButPlaces f g → IsReady told f host → IsReady told g host
ready_placed told f g host same ready =
    let placed : IsReady told (record f { levels = g.levels }) host = record {
      whole = ready.whole;
      opened = ready.opened;
      none_pending = ready.none_pending;
      number = ready.number;
      sized = ready.sized;
      there = ready.there;
      fits = ready.fits;
    } in
    subst (λ (t : Trees). IsReady told t host) (sym same.others) placed

-- none is closed yet
pub way_begins : (w : World) (f : Trees) (host : HostState) → Holds w f host → IsOnWay w 0 f host
way_begins w f host holds =
    let all : length w.series - 0 ≡ length w.series = omega arith in
    record { now = w; holds = holds; rest = ap (λ (k : ℕ). closed_from k 0 w) all; goes = same w w refl refl }

-- as many names are of as many series
pub same_number : (f g : Trees) → names_of f.meta.series ≡ names_of g.meta.series → length f.meta.series ≡ length g.meta.series
same_number f g same =
    sym (length-map f.meta.series (λ (s : SeriesMeta). s.name)) ∙ ap length same ∙ length-map g.meta.series (λ (s : SeriesMeta). s.name)

pub within_frames : (f g : Trees) (n : ℕ) → AreTrees f → names_of f.meta.series ≡ names_of g.meta.series → n < length g.meta.series → n < length f.frames
within_frames f g n are same within = omega (arith, are.pooled.number, same_number f g same, within)

-- a series with a frame has an open leaf
pub open_some : (w : World) (f : Trees) (n : ℕ) → AreTrees f → Keeps w f → get_or f.frames n None ≢ None → written_in w.series n ≢ []
open_some w f n are keeps opened = by (get_or f.frames n None) refl opened
  where
    by : (o : Option Frame) → get_or f.frames n None ≡ o → o ≢ None → written_in w.series n ≢ []
    by None is some = absurd (some refl)
    by (Some frame) is some = λ e. leaf_some f.pool f.frames (length f.meta.series) n frame are.pooled is (leaf_is w f n (length f.meta.series) frame are.pooled keeps is ∙ e)

-- what was found of a series' frame
pub found_some : (frames known : List (Option Frame)) (n : ℕ) (found : Option Frame) → frames ≡ known → n < length known → found ≡ get_or frames n found → is_some found ≡ true → get_or known n None ≢ None
found_some frames known n found same within is some =
    let read : found ≡ get_or known n None = get_or_read known n found within (is ∙ ap (λ (l : List (Option Frame)). get_or l n found) same) None in
    λ e. true≢false (sym some ∙ ap is_some (read ∙ e))

pub found_none : (frames known : List (Option Frame)) (n : ℕ) (found : Option Frame) → frames ≡ known → n < length known → found ≡ get_or frames n found → is_some found ≡ false → get_or known n None ≡ None
found_none frames known n found same within is none =
    let read : found ≡ get_or known n None = get_or_read known n found within (is ∙ ap (λ (l : List (Option Frame)). get_or l n found) same) None in
    sym read ∙ nothing found none
  where
    nothing : (o : Option Frame) → is_some o ≡ false → o ≡ None
    nothing None e = refl
    nothing (Some frame) e = absurd (true≢false e)

-- those before a number have none
pub none_before : (frames : List (Option Frame)) (i n : ℕ) → i < length frames → ((m : ℕ) → m < i → get_or frames m None ≡ None) → n < i + 1 → get_or (slice_set frames i None) n None ≡ None
none_before frames i n within none below = elim (cases_eq n i) [
  | inl here ↦ ap (λ (k : ℕ). get_or (slice_set frames i None) k None) here ∙ get_or-set_same frames i None None within
  | inr other ↦ get_or-set_other frames i n None None other ∙ none n (omega (arith, below, other))
]

pub none_next : (frames : List (Option Frame)) (i n : ℕ) → get_or frames i None ≡ None → ((m : ℕ) → m < i → get_or frames m None ≡ None) → n < i + 1 → get_or frames n None ≡ None
none_next frames i n here none below = elim (cases_eq n i) [
  | inl same ↦ ap (λ (k : ℕ). get_or frames k None) same ∙ here
  | inr other ↦ none n (omega (arith, below, other))
]

-- no frame is used where no series has one
pub none_used : (pool : Frames) (frames : List (Option Frame)) (count : ℕ) → ArePooled pool frames count → ((n : ℕ) → n < count → get_or frames n None ≡ None) → pool.used ≡ []
none_used pool frames count are none = by pool.used are.each
  where
    by : (us : List Used) → AllByRecursion (IsOpenLeaf frames) us → us ≡ []
    by [] each = refl
    by (u ∷ us) each = absurd (some (get_or frames u.series None) u.frame each.0.is (none u.series (omega (arith, each.0.known, are.number))))
      where
        some : (o : Option Frame) (n : ℕ) → o ≡ Some (record { 0 = n }) → o ≡ None → ⊥
        some o n e nothing = cc
