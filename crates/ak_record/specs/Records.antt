-- Records of views in the slots of file 0.
use Rattle.std.specs.Prelude.{ℕ, ◌≡◌, ◌+◌, ◌*◌, true, List, ◌++◌, length, Option}
use Rattle.byteorder.specs.Endian.{little_bytes}
use Rattle.ak_gate.specs.declared.half.Half.{Half}
use Rattle.ak_gate.specs.Opening.{IsBad}
use Rattle.ak_gate.specs.Slots.{Frame, frame_of, newest, gate_at, body_at, is_open}
use Rattle.ak_host.specs.Files.{Files, file_at}
use Rattle.ak_host.specs.Moments.{HostState, LeavesNow}
use Rattle.ak_meta.specs.Contents.{Content, meta_bytes, Spells}

-- what a slot holds of a view with this number and content
abbrev pub frame_for : ℕ → Content → Frame
frame_for number content = record { number = number; payload = meta_bytes content }

-- its bytes: the length of the payload (8), the number (8), the payload
abbrev pub frame_bytes : Frame → List ℕ
frame_bytes f = little_bytes 8 (length f.payload) ++ little_bytes 8 f.number ++ f.payload

-- A body has a frame that isn't longer than it, whose payload spells a content with this size of a slot.
pub record IsRecord (slot : ℕ) (body : List (List ℕ)) : Type 0 where
  pub good : ¬ (IsBad slot body)
  pub content : Content
  pub spells : Spells (frame_of body).payload content
  pub slot_is : content.limits.slot ≡ slot

-- File 0 has two gates and two bodies, this is its newest record, and behind each open gate there is a record.
pub record HasNewest (slot : ℕ) (frame : Option Frame) (disk : Files) : Type 0 where
  pub blocks : length (file_at disk 0) ≡ 2 + 2 * slot
  pub newest_is : newest slot disk ≡ frame
  pub records : (half : Half) → is_open (gate_at half (file_at disk 0)) ≡ true → IsRecord slot (body_at slot half (file_at disk 0))

-- whatever a stop leaves now, this is its newest record
abbrev pub Rests : ℕ → Option Frame → HostState → Type 0
Rests slot frame host = (disk : Files) → LeavesNow host disk → HasNewest slot frame disk
