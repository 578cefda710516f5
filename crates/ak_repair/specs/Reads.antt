-- Calls that only read the disk, and why they stop.
use Rattle.std.specs.Prelude.{ℕ, ◌≡◌, ◌≤◌}
use Rattle.ak_base.specs.declared.stop.Stop.{Stop}
use Rattle.ak_base.specs.declared.stop.Stop.TheVariants.{Usage, Damaged, Disk, Port, Memory, Budget, Worn, NoStore, Exists}
use Rattle.ak_host.specs.Causes.{Rose}
use Rattle.ak_host.specs.Moments.{HostState, DiskPasses, LeavesNow}

-- The files, their sizes, the count of writes and the faults of the ports are as they were, the count of faults of the disk has
-- not fallen, and at each moment a stop leaves what it might have left before.
pub record OnlyReads (told : Type 0) (old new : HostState) : Type 0 where
  pub later : old.disk_faults ≤ new.disk_faults
  pub port_faults : new.port_faults ≡ old.port_faults
  pub sizes : new.sizes ≡ old.sizes
  pub files : told → new.files ≡ old.files
  pub writes : told → new.writes ≡ old.writes
  pub moments : told → DiskPasses (LeavesNow old) old new

-- There was no memory, a read failed and the count of faults rose, or a block is damaged, for which there is a reason.
abbrev pub IsReadStop : (ℕ → ℕ → Type 0) → HostState → HostState → Stop → Type 0
IsReadStop reason old new Memory = Unit {0}
IsReadStop reason old new Disk = Rose old.disk_faults new.disk_faults
IsReadStop reason old new (Damaged file block) = reason file block
IsReadStop reason old new (Worn ordinal fill number) = ⊥
IsReadStop reason old new Port = ⊥
IsReadStop reason old new Usage = ⊥
IsReadStop reason old new Budget = ⊥
IsReadStop reason old new NoStore = ⊥
IsReadStop reason old new Exists = ⊥
