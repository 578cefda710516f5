-- How a gate fits a disk.
use Rattle.std.specs.Prelude.{◌≡◌, ◌≢◌, ℕ, ◌+◌, ◌*◌, ◌<◌, ◌^◌, true, List, length, slice_index}
use Rattle.ak_host.specs.Files.{Files, file_at}
use Rattle.ak_host.specs.Moments.{HostState, LeavesNow}
use Rattle.ak_gate.specs.View.{View}
use Rattle.ak_gate.specs.Slots.{other, gate_at, body_at, is_open, Frame, frame_of, newest_in, current}

-- file 0 is there with its gates and bodies
pub record IsSized (slot : ℕ) (host : HostState) : Type 0 where
  pub there : 0 < length host.sizes
  pub blocks : slice_index host.sizes 0 ≡ 2 + 2 * slot
  pub small : 2 + 2 * slot < 2 ^ 32

-- file 0 as a stop leaves it: both gates and the newest body stand, and all of it while the other gate is open
pub record Stands (view : View) (file left : List (List ℕ)) : Type 0 where
  pub length_same : length left ≡ length file
  pub gate_same : gate_at view.newest left ≡ gate_at view.newest file
  pub other_same : gate_at (other view.newest) left ≡ gate_at (other view.newest) file
  pub body_same : body_at view.slot view.newest left ≡ body_at view.slot view.newest file
  pub all_same : view.other_open ≡ true → left ≡ file

-- the gate knows the newest record of file 0
pub record Knows (view : View) (file : List (List ℕ)) : Type 0 where
  pub blocks : length file ≡ 2 + 2 * view.slot
  pub own : is_open (gate_at view.newest file) ≡ view.is_open
  pub others : is_open (gate_at (other view.newest) file) ≡ view.other_open
  pub wins : newest_in view.slot file ≡ current view.is_open (frame_of (body_at view.slot view.newest file))
  pub number : view.is_open ≡ true → (frame_of (body_at view.slot view.newest file)).number ≡ view.number

-- the gate knows the newest record of the disk as it reads, and a stop leaves it
pub record Fits (view : View) (host : HostState) : Type 0 where
  pub knows : Knows view (file_at host.files 0)
  pub stands : (disk : Files) → LeavesNow host disk → Stands view (file_at host.files 0) (file_at disk 0)

-- what the next call is to reveal
abbrev pub other_frame : View → Files → Frame
other_frame view files = frame_of (body_at view.slot (other view.newest) (file_at files 0))

-- but for file 0 the files are the same
pub record SameElsewhere (old new : Files) : Type 0 where
  pub number : length new ≡ length old
  pub others : (file : ℕ) → file ≢ 0 → file_at new file ≡ file_at old file
