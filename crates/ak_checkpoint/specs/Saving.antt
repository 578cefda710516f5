-- Views as they are saved.
use Rattle.std.specs.Prelude.{ℕ, ◌≡◌, ◌⊎◌, Bool, true, List, Option, Some}
use Rattle.ak_gate.specs.Fits.{SameElsewhere}
use Rattle.ak_gate.specs.Slots.{Frame, other}
use Rattle.ak_gate.specs.View.{View}
use Rattle.ak_host.specs.Files.{Files, file_at}
use Rattle.ak_host.specs.Moments.{HostState, LeavesNow}
use Rattle.ak_record.specs.Records.{HasNewest}

-- What contracts see of it: the gate, whether a view is pending, the number of the view that was begun last, the bytes of
-- its frame, and the file that is synced first.
pub record Saving : Type 0 where
  pub gate : View
  pub pending : Bool
  pub number : ℕ
  pub bytes : List ℕ
  pub file : ℕ

-- the gate once the other slot's record, which has this number, is revealed
abbrev pub revealed : View → ℕ → View
revealed view number = record view { newest = other view.newest; is_open = true; other_open = view.is_open; number = number }

-- a stop might have left this disk before, but for file 0; the file that is synced is as it reads
pub record IsSavedOver (file : ℕ) (old : HostState) (disk : Files) : Type 0 where
  pub before : Files
  pub left : LeavesNow old before
  pub synced : file_at before file ≡ file_at old.files file
  pub elsewhere : SameElsewhere before disk

-- While a view is saved, a stop leaves what it might have left before; or, once the file is synced, the newest record from
-- before or that of the view.
abbrev pub IsSaving : ℕ → ℕ → Option Frame → Frame → HostState → Files → Type 0
IsSaving slot file before frame old disk =
    LeavesNow old disk ⊎ (IsSavedOver file old disk × (HasNewest slot before disk ⊎ HasNewest slot (Some frame) disk))
