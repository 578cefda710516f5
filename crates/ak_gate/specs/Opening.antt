-- What is read where file 0 is opened.
use Rattle.std.specs.Prelude.{◌≡◌, ℕ, ◌+◌, ◌-◌, ◌*◌, ◌%◌, ◌/◌, ◌<◌, ◌≤◌, true, false, Option, Some, None, nat_le, if◌then◌else◌, List, [], ◌++◌, length, take, slice_index, slice_index_or}
use Rattle.ak_base.specs.declared.stop.Stop.{Stop}
use Rattle.ak_base.specs.declared.stop.Stop.TheVariants.{Usage, Damaged, Disk, Port, Memory, Budget, Worn, NoStore, Exists}
use Rattle.ak_host.specs.Causes.{Rose}
use Rattle.ak_host.specs.Files.{file_at}
use Rattle.ak_host.specs.Moments.{HostState, LeavesNow, DiskPasses}
use Rattle.ak_gate.specs.Fits.{IsSized}
use Rattle.ak_gate.specs.View.{View}
use Rattle.ak_gate.specs.Slots.{gate_at, body_at, body_index, is_open, number_of, joined, frame_of, newest_in, other}
use Rattle.ak_gate.specs.declared.half.Half.{Half}
use Rattle.ak_gate.specs.declared.half.Half.TheVariants.{First, Second}
use Rattle.ak_gate.specs.declared.opening.Found.{Found}
use Rattle.ak_gate.specs.declared.opening.Opened.{Opened}

-- the length of the payload, as a body's head says
abbrev pub length_of : List (List ℕ) → ℕ
length_of body = number_of (take 8 (joined body))

-- a frame that is longer than the body
abbrev pub IsBad : ℕ → List (List ℕ) → Type 0
IsBad slot body = 4096 * slot - 16 < length_of body

-- a slot with an open gate and a bad frame
pub record IsBadSlot (slot : ℕ) (half : Half) (file : List (List ℕ)) : Type 0 where
  pub opened : is_open (gate_at half file) ≡ true
  pub bad : IsBad slot (body_at slot half file)

-- file 0 is there, and has gates and bodies
pub record HasSlots (host : HostState) : Type 0 where
  pub there : 0 < length host.sizes
  pub even : slice_index host.sizes 0 % 2 ≡ 0
  pub least : 4 ≤ slice_index host.sizes 0

-- the blocks of a slot
abbrev pub slot_size : HostState → ℕ
slot_size host = (slice_index host.sizes 0 - 2) / 2

-- a gate that was opened
pub record IsWhole (view : View) (host : HostState) : Type 0 where
  pub whole : view.broken ≡ false
  pub opened : view.is_open ≡ true
  pub sized : IsSized view.slot host
  pub some : 1 ≤ view.slot

-- the head of an open slot, whose frame is not bad
pub record IsHeadOf (slot : ℕ) (half : Half) (file : List (List ℕ)) (head : Opened) : Type 0 where
  pub opened : is_open (gate_at half file) ≡ true
  pub length_is : head.length ≡ length_of (body_at slot half file)
  pub number_is : head.number ≡ (frame_of (body_at slot half file)).number
  pub good : head.length ≤ 4096 * slot - 16
  pub long : length head.block ≡ 4096
  pub block_is : head.block ≡ slice_index_or file (body_index slot half) []

-- blocks were read, at most so many, and nothing else was done
pub record OnlyRead (most : ℕ) (old new : HostState) : Type 0 where
  pub files : new.files ≡ old.files
  pub writes : new.writes ≡ old.writes
  pub reads_least : old.reads ≤ new.reads
  pub reads_most : new.reads ≤ old.reads + most
  pub moments : DiskPasses (LeavesNow old) old new

-- with what stands in a block and behind it, the bytes are those that were to come
abbrev pub GoesOn : List ℕ → ℕ → List ℕ → List ℕ → ℕ → Type 0
GoesOn old left block new rest = (more : List ℕ) → new ++ take rest more ≡ old ++ take left (block ++ more)

-- the slot with the greater number, and the first on equal numbers
abbrev pub newer_of : Option Opened → Option Opened → Option Found
newer_of None None = None
newer_of (Some first) None = Some (record { half = First; head = first; other_open = false })
newer_of None (Some second) = Some (record { half = Second; head = second; other_open = false })
newer_of (Some first) (Some second) =
    if nat_le second.number first.number then Some (record { half = First; head = first; other_open = true }) else Some (record { half = Second; head = second; other_open = true })

-- the slot of the newest record, where no open gate has a bad frame
pub record IsFound (slot : ℕ) (file : List (List ℕ)) (found : Found) : Type 0 where
  pub head : IsHeadOf slot found.half file found.head
  pub others : is_open (gate_at (other found.half) file) ≡ found.other_open
  pub wins : newest_in slot file ≡ Some (frame_of (body_at slot found.half file))
  pub none_bad : (half : Half) → IsBadSlot slot half file → ⊥

-- Why file 0 with slots of this size can't be opened: no gate is open; a frame behind an open gate is bad, that of the
-- first slot before that of the second; a read failed; there is no memory.
abbrev pub IsCause : ℕ → Type 0 → HostState → HostState → Stop → Type 0
IsCause slot told old new NoStore = told → (half : Half) → is_open (gate_at half (file_at old.files 0)) ≡ false
IsCause slot told old new (Damaged file block) = (file ≡ 0) × ((half : Half) × (block ≡ body_index slot half) × (told → IsBadSlot slot half (file_at old.files 0))
    × (told → half ≡ Second → IsBadSlot slot First (file_at old.files 0) → ⊥))
IsCause slot told old new Disk = Rose old.disk_faults new.disk_faults
IsCause slot told old new Memory = Unit {0}
IsCause slot told old new Usage = ⊥
IsCause slot told old new Port = ⊥
IsCause slot told old new Budget = ⊥
IsCause slot told old new (Worn ordinal fill number) = ⊥
IsCause slot told old new Exists = ⊥
