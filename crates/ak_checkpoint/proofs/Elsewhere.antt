-- What a stop leaves of the other files while file 0 is written.
use Rattle.std.proofs.Common.{◌≡◌, ◌⊎◌, inl, inr, ℕ, ◌≤◌, refl, ◌∙◌, ap, Option, Some, Result, Ok, Err, OnOk}
use Rattle.ak_host.specs.Files.{Files, file_at}
use Rattle.ak_host.specs.Moments.{HostState, LeavesNow, IsStable, DiskPasses}
use Rattle.ak_host.specs.Calls.{Follows}
use Rattle.ak_host.proofs.Passing.{disk_goes_on, disk_now, disk_weaker}
use Rattle.ak_gate.specs.Fits.{SameElsewhere}
use Rattle.ak_gate.specs.Slots.{Frame}
use Rattle.ak_record.specs.Records.{HasNewest, Rests}
use Rattle.ak_checkpoint.specs.Saving.{IsSavedOver, IsSaving}
use Rattle.ak_checkpoint.proofs.Records.{both_pass}

pub same_here : (files : Files) → SameElsewhere files files
same_here files = record { number = refl; others = λ file other. refl }

pub same_on : (old mid new : Files) → SameElsewhere old mid → SameElsewhere mid new → SameElsewhere old new
same_on old mid new first second = record {
  number = second.number ∙ first.number;
  others = λ file other. second.others file other ∙ first.others file other;
}

-- what follows from an Ok
pub on_ok : {T E A B : Type 0} (r : Result T E) → OnOk r A → (A → B) → OnOk r B
on_ok (Ok x) is then = then is
on_ok (Err e) is then = tt

-- what is left now follows from what was left before
pub left_from : (old new : HostState) → DiskPasses (Follows SameElsewhere old) old new → (disk : Files) → LeavesNow new disk → Follows SameElsewhere old disk
left_from old new run = disk_now run (λ disk left. (disk, left, same_here disk))

-- one call more
pub elsewhere_on : (old mid new : HostState) → DiskPasses (Follows SameElsewhere old) old mid → DiskPasses (Follows SameElsewhere mid) mid new → DiskPasses (Follows SameElsewhere old) old new
elsewhere_on old mid new first second = disk_goes_on first second (λ disk follows.
    let before = left_from old mid first follows.0 follows.1 in
    (before.0, before.1, same_on before.0 follows.0 disk before.2 follows.2))

-- once the file is synced
module _ (file : ℕ) (old mid new : HostState) (behind : 1 ≤ file) (same : mid.files ≡ old.files) (run : DiskPasses (LeavesNow old) old mid) (stable : IsStable file mid) where
  saved_over : (disk : Files) → Follows SameElsewhere mid disk → IsSavedOver file old disk
  saved_over disk follows = record {
    before = follows.0;
    left = disk_now run (λ d was. was) follows.0 follows.1;
    synced = stable follows.0 follows.1 ∙ ap (λ (files : Files). file_at files file) same;
    elsewhere = follows.2;
  }

  pub over_passes : DiskPasses (Follows SameElsewhere mid) mid new → DiskPasses (IsSavedOver file old) mid new
  over_passes left = disk_weaker left saved_over

  pub over_now : DiskPasses (Follows SameElsewhere mid) mid new → (disk : Files) → LeavesNow new disk → IsSavedOver file old disk
  over_now left disk now = saved_over disk (left_from mid new left disk now)

  pub saving_passes : (slot : ℕ) (before : Option Frame) (frame : Frame) → DiskPasses (Follows SameElsewhere mid) mid new
      → DiskPasses (λ disk. HasNewest slot before disk ⊎ HasNewest slot (Some frame) disk) mid new → DiskPasses (IsSaving slot file before frame old) old new
  saving_passes slot before frame left which =
      disk_goes_on {P = IsSaving slot file before frame old} (disk_weaker run (λ disk was. inl was)) (both_pass (over_passes left) which) (λ disk both. inr both)

  pub rests_synced : (slot : ℕ) (before : Option Frame) → Rests slot before old → Rests slot before mid
  rests_synced slot before rests disk left = rests disk (disk_now run (λ d was. was) disk left)
