-- What a command leaves from what its parts leave, and what is left where nothing is done.
use Rattle.std.proofs.Common.{ℕ, ◌≡◌, inl, ◌+◌, List, [], refl, sym, ap, subst, arith}
use Rattle.ak_host.specs.Files.{Files}
use Rattle.ak_host.specs.Marks.{Mark}
use Rattle.ak_host.specs.Moments.{HostState, Passes, DiskPasses, LeavesNow, mark_now}
use Rattle.ak_host.proofs.Passing.{passes_weaker}
use Rattle.ak_world.specs.Views.{View}
use Rattle.ak_top.specs.Commands.{IsRun, AreFree, IsMaking, LeavesBefore, scratch_limits}
use Rattle.ak_top.specs.Kept.{KeepsFrom}
use Rattle.ak_run.specs.Run.{world_of}
use Rattle.ak_top.specs.Told.{IsQuiet}
use Rattle.ak_top.proofs.Making.{free_none}
use Rattle.ak_top.proofs.Runs.{none_since, answered_all}
use Rattle.ak_top.proofs.Words.{run_or_none}

-- ---- Before any turn

pub quiet_starts : (view : View) (mark : Mark) → IsQuiet view mark mark
quiet_starts view mark = record {
  answered = answered_all view mark mark (none_since mark) (world_of view) [] (record { same = refl; told_is = refl }) (λ port. refl);
  console = refl;
}

-- while the mark stays as it was
pub quiet_passes : (view : View) {P : Files → Type 0} {old new : HostState} → DiskPasses P old new
    → Passes (IsQuiet view (mark_now old)) (λ mark disk. Unit {0}) old new
quiet_passes view {P} {old} {new} run =
    passes_weaker {N = IsQuiet view (mark_now old)} {Q = λ mark disk. Unit {0}} run
    (λ mark same. subst (IsQuiet view (mark_now old)) (sym same) (quiet_starts view (mark_now old)))
    (λ mark disk same left. tt)

-- ---- What a stop leaves

pub keeps_weaker : {view : View} {P Q : Files → Type 0} {opened : Type 0} {old new : HostState} → KeepsFrom view P opened old new → ((disk : Files) → P disk → Q disk)
    → KeepsFrom view Q opened old new
keeps_weaker keeps is = record {
  barrier = keeps.barrier;
  later = keeps.later;
  within = keeps.within;
  turns_before = keeps.turns_before;
  before = λ t disk from until ends left. is disk (keeps.before t disk from until ends left);
  from = keeps.from;
}

-- where nothing is done
pub keeps_starts : {opened : Type 0} (view : View) (words : List (List ℕ)) (host : HostState) → ¬ opened → KeepsFrom view (LeavesBefore words host) opened host host
keeps_starts {opened} view words host failed = record {
  barrier = host.moment + 1;
  later = omega arith;
  within = λ o. absurd (failed o);
  turns_before = λ t from until ends. let at : t ≡ host.moment = omega arith in ap (λ k. (host.mark k).turns) at;
  before = λ t disk from until ends left.
      let at : t ≡ host.moment = omega arith in
      let now = subst (λ k. host.leaves k disk) at left in
      record { run = λ run. now; scratch = λ none free. inl (free_none disk (free disk now)) };
  from = λ t disk from until left. absurd (omega arith);
}

-- where less is asked for
pub keeps_opened : {view : View} {P : Files → Type 0} {opened asked : Type 0} {old new : HostState} → (asked → opened) → KeepsFrom view P opened old new → KeepsFrom view P asked old new
keeps_opened is keeps = record {
  barrier = keeps.barrier;
  later = keeps.later;
  within = λ a. keeps.within (is a);
  turns_before = keeps.turns_before;
  before = keeps.before;
  from = keeps.from;
}

pub leaves_run : (words : List (List ℕ)) (host : HostState) → IsRun words → (disk : Files) → LeavesNow host disk → LeavesBefore words host disk
leaves_run words host run disk left = record { run = λ again. left; scratch = λ none. absurd (run_or_none words run none) }

pub leaves_scratch : (words : List (List ℕ)) (host : HostState) → words ≡ [] → (disk : Files) → (AreFree host → IsMaking scratch_limits disk) → LeavesBefore words host disk
leaves_scratch words host none disk making = record { run = λ run. absurd (run_or_none words run none); scratch = λ again. making }
