-- How what is asked is answered: a call of the disk, and then at most one reply.
use Rattle.std.proofs.Common.{◌≡◌, ◌⊎◌, inl, inr, ℕ, ℤ, false, List, [], ◌++◌, length, drop, Option, refl, sym, ◌∙◌, ap, subst}
use Rattle.std.proofs.Math.Seq.{drop-append_seam}
use Rattle.ak_base.specs.declared.refusal.Refusal.{Refusal}
use Rattle.ak_host.specs.Files.{Files}
use Rattle.ak_host.specs.Marks.{Mark}
use Rattle.ak_host.specs.Moments.{HostState, LeavesNow, Passes, DiskPasses, PortPasses, mark_now}
use Rattle.ak_host.proofs.Passing.{same_mark, goes_on, disk_weaker}
use Rattle.ak_run.specs.declared.asked.Asked.{Asked}
use Rattle.ak_run.specs.declared.asked.Asked.TheVariants.{Refused, Points, Rows, Flush}
use Rattle.ak_run.specs.Bulks.{head_room, IsBulkFrom}
use Rattle.ak_run.specs.Contents.{after, after_asked}
use Rattle.ak_run.specs.Replies.{refusal_reply, points_reply, reply_to, ok_reply, bulk_reply, rows_of}
use Rattle.ak_run.proofs.Growing.{sound_after, sound_reply, stay}
use Rattle.ak_tree.specs.Storing.{LeavesView}
use Rattle.ak_world.specs.Puts.{refusal_of}
use Rattle.ak_world.specs.Steps.{flushed}
use Rattle.ak_world.specs.Worlds.{World as Store}
use Rattle.ak_node.specs.declared.keeper.Keeper.{Keeper}
use Rattle.ak_node.specs.Calls.{Told}
use Rattle.ak_node.specs.Pieces.{InAnswer, LeavesInAnswer}
use Rattle.ak_node.specs.Standing.{Holds}
use Rattle.ak_node.proofs.Staying.{left_last, last_left, by_moment}
use Rattle.ak_node.proofs.Tellings.{told_nothing}

module _ (port : ℕ) (content : Store) (a : Asked) (sound : content.worn ≡ false) where
  -- what it makes of the store
  after_is : after content a ≡ after_asked content a
  after_is = sound_after content a sound

  -- the store is held then
  pub holds_asked : (keeper : Keeper) (host : HostState) → Holds (after_asked content a) keeper host → Holds (after content a) keeper host
  holds_asked keeper host holds = subst (λ (c : Store). Holds c keeper host) (sym after_is) holds

  pub leaves_asked : (disk : Files) → LeavesView content (after_asked content a) disk → LeavesView content (after content a) disk
  leaves_asked disk left = subst (λ (c : Store). LeavesView content c disk) (sym after_is) left

  -- the disk's part, before anything is told
  pub disk_part : {old mid : HostState} → DiskPasses (LeavesView content (after_asked content a)) old mid → Passes (InAnswer port content a (mark_now old)) (LeavesInAnswer port content a (mark_now old)) old mid
  disk_part run = by_moment run (λ mark same. inl same) (λ mark disk same left. inl (same, leaves_asked disk left))

  module _ {old mid : HostState} (run : DiskPasses (LeavesView content (after_asked content a)) old mid) (bytes : List ℕ) (is : (reply_to port content a).bytes ≡ bytes) where
    pub told_asked : (mark : Mark) → Told (mark_now mid) mark port bytes → Told (mark_now old) mark port (reply_to port content a).bytes
    told_asked mark told = subst (λ (b : List ℕ). Told (mark_now old) mark port b) (sym is) (subst (λ (start : Mark). Told start mark port bytes) (same_mark run) told)

    in_reply : (mark : Mark) → (mark ≡ mark_now mid) ⊎ Told (mark_now mid) mark port bytes → InAnswer port content a (mark_now old) mark
    in_reply mark (inl same) = inl (same ∙ same_mark run)
    in_reply mark (inr told) = inr (told_asked mark told)

    -- and the reply
    pub reply_part : {new : HostState} (keeper : Keeper) → Holds (after_asked content a) keeper mid → PortPasses (λ mark. (mark ≡ mark_now mid) ⊎ Told (mark_now mid) mark port bytes) mid new
        → Passes (InAnswer port content a (mark_now old)) (LeavesInAnswer port content a (mark_now old)) old new
    reply_part keeper holds call =
        goes_on (disk_part run) call in_reply
        (λ mark disk told left. inr (in_reply mark told, left_last (after content a) keeper mid (holds_asked keeper mid holds) disk left))

-- nothing is told
pub told_none : (port : ℕ) (content : Store) (a : Asked) {P : Files → Type 0} {old mid : HostState} → DiskPasses P old mid → (reply_to port content a).bytes ≡ [] → Told (mark_now old) (mark_now mid) port (reply_to port content a).bytes
told_none port content a {P} {old} {mid} run none =
    subst (λ (b : List ℕ). Told (mark_now old) (mark_now mid) port b) (sym none) (subst (λ (m : Mark). Told (mark_now old) m port []) (sym (same_mark run)) (told_nothing (mark_now old) port))

-- ---- What is told

pub refused_bytes : (port : ℕ) (content : Store) (r : Refusal) → content.worn ≡ false → (reply_to port content (Refused r)).bytes ≡ refusal_reply r
refused_bytes port content r sound = rw (sound_reply port content (Refused r) sound) refl

pub points_bytes : (port : ℕ) (content : Store) (names : List (List ℕ)) (time : ℕ) (values : List ℤ) (o : Option Refusal) → content.worn ≡ false → o ≡ refusal_of content names time
    → (reply_to port content (Points names time values)).bytes ≡ points_reply o
points_bytes port content names time values o sound is = rw (sound_reply port content (Points names time values) sound) (ap points_reply (sym is))

pub rows_bytes : (port : ℕ) (content : Store) (metric text : List ℕ) → content.worn ≡ false → text ≡ rows_of content metric → (reply_to port content (Rows metric)).bytes ≡ bulk_reply text
rows_bytes port content metric text sound is = rw (sound_reply port content (Rows metric) sound) (ap bulk_reply (sym is))

pub flush_bytes : (port : ℕ) (content : Store) → content.worn ≡ false → (flushed content).worn ≡ false → (reply_to port content Flush).bytes ≡ ok_reply
flush_bytes port content sound taken = rw (sound_reply port content Flush sound) (rw taken refl)

-- calls that only read leave the last view
pub reads_leave : (content : Store) (keeper : Keeper) (old mid : HostState) → Holds content keeper old → DiskPasses (LeavesNow old) old mid → DiskPasses (LeavesView content content) old mid
reads_leave content keeper old mid holds run = disk_weaker run (λ disk left. last_left content content disk (stay content) (left_last content keeper old holds disk left))

-- rows that stand behind the room for their head are told as a bulk
pub bulk_told : (port : ℕ) (content : Store) (metric room text reply told : List ℕ) (start : ℕ) → content.worn ≡ false → length room ≡ head_room → text ≡ room ++ rows_of content metric
    → IsBulkFrom reply start (drop head_room text) → told ≡ drop start reply → (reply_to port content (Rows metric)).bytes ≡ told
bulk_told port content metric room text reply told start sound long is bulk told_is =
    let rows : drop head_room text ≡ rows_of content metric = ap (drop head_room) is ∙ ap (λ n. drop n (room ++ rows_of content metric)) (sym long) ∙ drop-append_seam room (rows_of content metric) in
    rows_bytes port content metric (drop head_room text) sound rows ∙ sym (told_is ∙ bulk.is)
