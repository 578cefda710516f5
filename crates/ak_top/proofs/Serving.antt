-- A store that is opened, or made, and then served.
use Rattle.std.proofs.Common.{◌≡◌, inl, ℕ, ◌+◌, ◌≤◌, Result, refl, ◌∙◌, ap, subst, arith}
use Rattle.ak_base.specs.declared.limits.Limits.{Limits}
use Rattle.ak_base.specs.declared.stop.Stop.{Stop}
use Rattle.ak_host.specs.Files.{Files}
use Rattle.ak_host.specs.Marks.{Mark}
use Rattle.ak_host.specs.Moments.{HostState, LeavesNow, Passes, DiskPasses, HoldsFrom, mark_now}
use Rattle.ak_host.proofs.Passing.{holds_here, holds_on, passes_weaker, passes_on}
use Rattle.ak_node.specs.declared.node.Node.{Node}
use Rattle.ak_node.specs.Standing.{Stands}
use Rattle.ak_node.proofs.Staying.{left_last}
use Rattle.ak_run.specs.Run.{world_of}
use Rattle.ak_world.specs.Views.{View}
use Rattle.ak_world.specs.Worlds.{world_of as opened}
use Rattle.ak_top.specs.Commands.{AreFree, IsMaking}
use Rattle.ak_top.specs.Ends.{HasServed}
use Rattle.ak_top.specs.Kept.{IsKept, KeepsFrom}
use Rattle.ak_top.specs.Told.{IsQuiet}
use Rattle.ak_top.proofs.Commands.{quiet_starts, quiet_passes}
use Rattle.ak_top.proofs.Making.{free_none}
use Rattle.ak_top.proofs.Runs.{running_starts, running_kept}

-- at each moment of disk calls the mark is the same, and a stop leaves a disk that has P
abbrev pub HoldsStill : (Files → Type 0) → HostState → HostState → Type 0
HoldsStill P old new = HoldsFrom old.moment (λ mark. mark ≡ mark_now old) (λ mark disk. P disk) new

pub holds_still : {P : Files → Type 0} (old new : HostState) → ((disk : Files) → LeavesNow old disk → P disk) → DiskPasses P old new → HoldsStill P old new
holds_still {P} old new base run = holds_on {M = λ mark. mark ≡ mark_now old} {P = λ mark disk. P disk} old.moment (holds_here refl base) run

pub later_of : {P : Files → Type 0} (old new : HostState) → DiskPasses P old new → old.moment ≤ new.moment
later_of old new run = run.later

-- the store was not opened
pub keeps_none : {P : Files → Type 0} {asked : Type 0} (view : View) (old new : HostState) → ¬ asked → old.moment ≤ new.moment → HoldsStill P old new
    → KeepsFrom view P asked old new
keeps_none {P} {asked} view old new failed later still = record {
  barrier = new.moment + 1;
  later = omega (arith, later);
  within = λ o. absurd (failed o);
  turns_before = λ t from before until. ap (λ (m : Mark). m.turns) (still.marks t from until);
  before = λ t disk from before until left. still.disks t disk from until left;
  from = λ t disk from until left. absurd (omega arith);
}

module _ (view : View) (node : Node) (old mid new : HostState) (same : mark_now mid ≡ mark_now old) (stands : Stands node (world_of view) mid)
    (moments : Passes (IsQuiet view (mark_now mid)) (IsKept view (mark_now mid)) mid new) where
  -- the store was opened, and served
  pub keeps_served : {P : Files → Type 0} {asked : Type 0} → old.moment ≤ mid.moment → HoldsStill P old mid → KeepsFrom view P asked old new
  keeps_served {P} {asked} later still = record {
    barrier = mid.moment;
    later = later;
    within = λ o. moments.later;
    turns_before = λ t from before until. ap (λ (m : Mark). m.turns) (moments.mark_kept t (omega (arith, before)) ∙ still.marks t from (omega (arith, before)));
    before = λ t disk from before until left. still.disks t disk from (omega (arith, before)) ((moments.leaves_kept t disk (omega (arith, before))).0 left);
    from = λ t disk from until left. subst (λ (m : Mark). IsKept view m (new.mark t) disk) same (kept t disk from until left);
  }
    where
      here : (disk : Files) → LeavesNow mid disk → IsKept view (mark_now mid) (mark_now mid) disk
      here disk left = running_kept view (mark_now mid) (mark_now mid) node mid 0 (running_starts view (mark_now mid) node mid stands) disk (left_last (opened view) node.keeper mid stands.holds disk left)

      kept : (t : ℕ) (disk : Files) → mid.moment ≤ t → t ≤ new.moment → new.leaves t disk → IsKept view (mark_now mid) (new.mark t) disk
      kept t disk from until left =
          (holds_on {M = IsQuiet view (mark_now mid)} {P = IsKept view (mark_now mid)} mid.moment (holds_here (quiet_starts view (mark_now mid)) here) moments).disks t disk from until left

  pub quiet_served : {P : Files → Type 0} → DiskPasses P old mid → Passes (IsQuiet view (mark_now old)) (λ mark disk. Unit {0}) old new
  quiet_served {P} run =
      passes_on (quiet_passes view run) (subst (λ (m : Mark). Passes (IsQuiet view m) (λ mark disk. Unit {0}) mid new) same (passes_weaker moments (λ mark q. q) (λ mark disk q kept. tt)))

pub served_from : (view : View) (one two : Mark) (new : HostState) (r : Result (Unit {0}) Stop) → one ≡ two → HasServed view one new r → HasServed view two new r
served_from view one two new r same served = subst (λ (m : Mark). HasServed view m new r) same served

-- a store is made where none may be there
pub making_still : (limits : Limits) (old new : HostState) → DiskPasses (λ disk. Unit {0}) old new → (AreFree old → DiskPasses (IsMaking limits) old new) → HoldsStill (λ disk. AreFree old → IsMaking limits disk) old new
making_still limits old new run made = record {
  marks = (holds_still {P = λ disk. Unit {0}} old new (λ disk left. tt) run).marks;
  disks = λ t disk from until left free. (holds_still {P = IsMaking limits} old new (λ d l. inl (free_none d (free d l))) (made free)).disks t disk from until left;
}
