-- Why a store can't be opened or made, and why a view can't be saved.
use Rattle.std.specs.Prelude.{ℕ, ◌≡◌, ◌⊎◌, ◌+◌, ◌*◌, ◌%◌, ◌<◌, ◌≤◌, true, false, List, length, Some, slice_index}
use Rattle.ak_base.specs.declared.limits.Limits.{Limits}
use Rattle.ak_base.specs.declared.stop.Stop.{Stop}
use Rattle.ak_base.specs.declared.stop.Stop.TheVariants.{Usage, Damaged, Disk, Port, Memory, Budget, Worn, NoStore, Exists}
use Rattle.ak_host.specs.Causes.{Rose}
use Rattle.ak_host.specs.Files.{Files, file_at}
use Rattle.ak_host.specs.Moments.{HostState}
use Rattle.ak_gate.specs.declared.half.Half.{Half}
use Rattle.ak_gate.specs.Slots.{Frame, newest, gate_at, body_at, body_index, is_open}
use Rattle.ak_meta.specs.Contents.{Content, Spells}
use Rattle.ak_record.specs.Records.{IsRecord}

-- no gate is open
abbrev pub AreShut : Files → Type 0
AreShut disk = (half : Half) → is_open (gate_at half (file_at disk 0)) ≡ false

-- there is no store: file 0 isn't there, has an odd number of blocks or fewer than 4, or no gate is open
abbrev pub IsNoStore : Files → Type 0
IsNoStore disk = (length disk ≡ 0) ⊎ ((length (file_at disk 0) % 2 ≡ 1) ⊎ ((length (file_at disk 0) < 4) ⊎ AreShut disk))

-- there is a store already: file 0 has at least 2 blocks, of which one of the first two is an open gate
pub record IsTaken (disk : Files) : Type 0 where
  pub blocks : 2 ≤ length (file_at disk 0)
  pub half : Half
  pub opened : is_open (gate_at half (file_at disk 0)) ≡ true

-- an open gate whose body, which begins at this block of file 0, is no record
pub record IsDamagedAt (block : ℕ) (disk : Files) : Type 0 where
  pub slot : ℕ
  pub some : 1 ≤ slot
  pub blocks : length (file_at disk 0) ≡ 2 + 2 * slot
  pub half : Half
  pub at : block ≡ body_index slot half
  pub opened : is_open (gate_at half (file_at disk 0)) ≡ true
  pub damaged : ¬ (IsRecord slot (body_at slot half (file_at disk 0)))

-- The newest record of file 0 tells of more blocks in the file of a volume than there are: of more than these, which may be
-- none. The files before it are whole.
pub record IsShortAt (file block : ℕ) (disk : Files) : Type 0 where
  pub slot : ℕ
  pub blocks : length (file_at disk 0) ≡ 2 + 2 * slot
  pub newest_frame : Frame
  pub newest_is : newest slot disk ≡ Some newest_frame
  pub content : Content
  pub spells : Spells newest_frame.payload content
  pub volume : 1 ≤ file
  pub among : file ≤ content.limits.volumes
  pub has : length (file_at disk file) ≡ block
  pub short : block < content.limits.blocks
  pub first : (other : ℕ) → 1 ≤ other → other < file → content.limits.blocks ≤ length (file_at disk other)

-- what is damaged
abbrev pub IsDamaged : ℕ → ℕ → Files → Type 0
IsDamaged file block disk = ((file ≡ 0) × IsDamagedAt block disk) ⊎ IsShortAt file block disk

-- a call of the disk failed, or there is no memory
abbrev pub IsDiskStop : HostState → HostState → Stop → Type 0
IsDiskStop old new Disk = Rose old.disk_faults new.disk_faults
IsDiskStop old new Memory = Unit {0}
IsDiskStop old new Usage = ⊥
IsDiskStop old new (Damaged file block) = ⊥
IsDiskStop old new Port = ⊥
IsDiskStop old new Budget = ⊥
IsDiskStop old new (Worn ordinal fill number) = ⊥
IsDiskStop old new NoStore = ⊥
IsDiskStop old new Exists = ⊥

-- Why the newest view can't be opened: there is no store; an open gate has no record behind it, or the file of a volume is
-- missing or short; a call of the disk failed; there is no memory.
abbrev pub IsOpenStop : Type 0 → HostState → HostState → Stop → Type 0
IsOpenStop told old new NoStore = told → IsNoStore old.files
IsOpenStop told old new (Damaged file block) = told → IsDamaged file block old.files
IsOpenStop told old new Disk = Rose old.disk_faults new.disk_faults
IsOpenStop told old new Memory = Unit {0}
IsOpenStop told old new Usage = ⊥
IsOpenStop told old new Port = ⊥
IsOpenStop told old new Budget = ⊥
IsOpenStop told old new (Worn ordinal fill number) = ⊥
IsOpenStop told old new Exists = ⊥

-- Why no store can be made: there is one already; a call of the disk failed; there is no memory.
abbrev pub IsMakeStop : Type 0 → HostState → HostState → Stop → Type 0
IsMakeStop told old new Exists = told → IsTaken old.files
IsMakeStop told old new Disk = Rose old.disk_faults new.disk_faults
IsMakeStop told old new Memory = Unit {0}
IsMakeStop told old new Usage = ⊥
IsMakeStop told old new (Damaged file block) = ⊥
IsMakeStop told old new Port = ⊥
IsMakeStop told old new Budget = ⊥
IsMakeStop told old new (Worn ordinal fill number) = ⊥
IsMakeStop told old new NoStore = ⊥

-- the files of a store are there: file 0 with two slots, and each volume with its blocks
pub record AreMade (limits : Limits) (sizes : List ℕ) : Type 0 where
  pub number : limits.volumes < length sizes
  pub first : slice_index sizes 0 ≡ 2 + 2 * limits.slot
  pub volumes : (file : ℕ) → 1 ≤ file → file ≤ limits.volumes → slice_index sizes file ≡ limits.blocks
