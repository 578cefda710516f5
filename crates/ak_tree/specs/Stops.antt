-- Why a forest stops.
use Rattle.std.specs.Prelude.{ℕ, ◌≡◌, ◌≤◌, true, Result, Ok, Err}
use Rattle.ak_base.specs.declared.stop.Stop.{Stop}
use Rattle.ak_base.specs.declared.stop.Stop.TheVariants.{Usage, Damaged, Disk, Port, Memory, Budget, Worn, NoStore, Exists}
use Rattle.ak_host.specs.Causes.{Rose}
use Rattle.ak_host.specs.Moments.{HostState}
use Rattle.ak_volumes.specs.Ordinals.{newest, newest_fill}
use Rattle.ak_world.specs.Worlds.{World}

-- A call of the disk failed, the store is worn, or there is no memory.
abbrev pub IsTreeStop : HostState → HostState → Stop → Type 0
IsTreeStop old new Disk = Rose old.disk_faults new.disk_faults
IsTreeStop old new (Worn ordinal fill number) = Unit {0}
IsTreeStop old new Memory = Unit {0}
IsTreeStop old new Usage = ⊥
IsTreeStop old new (Damaged file block) = ⊥
IsTreeStop old new Port = ⊥
IsTreeStop old new Budget = ⊥
IsTreeStop old new NoStore = ⊥
IsTreeStop old new Exists = ⊥

abbrev pub StopsBy : {T : Type 0} → HostState → HostState → Result T Stop → Type 0
StopsBy old new (Ok v) = Unit {0}
StopsBy old new (Err stop) = IsTreeStop old new stop

-- The count of faults of the disk hasn't fallen, the sizes of the files and the faults of the ports are as they were, and a
-- stop has its cause.
pub record HasTreeStops {T : Type 0} (old new : HostState) (result : Result T Stop) : Type 0 where
  pub later : old.disk_faults ≤ new.disk_faults
  pub port_faults : new.port_faults ≡ old.port_faults
  pub sizes : new.sizes ≡ old.sizes
  pub stops : StopsBy old new result

-- The world is worn, and this is told of it: its newest ordinal, the fill of that, and the number of its last view.
pub record IsWornAt (w : World) (ordinal fill number : ℕ) : Type 0 where
  pub worn : w.worn ≡ true
  pub ordinal_is : ordinal ≡ newest w.ordinals
  pub fill_is : fill ≡ newest_fill w.ordinals
  pub number_is : number ≡ w.last.number

-- a stop tells that the world is worn
abbrev pub IsWornBy : World → Stop → Type 0
IsWornBy w (Worn ordinal fill number) = IsWornAt w ordinal fill number
IsWornBy w Disk = ⊥
IsWornBy w Memory = ⊥
IsWornBy w Usage = ⊥
IsWornBy w (Damaged file block) = ⊥
IsWornBy w Port = ⊥
IsWornBy w Budget = ⊥
IsWornBy w NoStore = ⊥
IsWornBy w Exists = ⊥

-- where it stops since the store is worn, the stop has P
abbrev pub OnWorn : {T : Type 0} → Result T Stop → (Stop → Type 0) → Type 0
OnWorn (Ok v) P = Unit {0}
OnWorn (Err (Worn ordinal fill number)) P = P (Worn ordinal fill number)
OnWorn (Err Disk) P = Unit {0}
OnWorn (Err Memory) P = Unit {0}
OnWorn (Err Usage) P = Unit {0}
OnWorn (Err (Damaged file block)) P = Unit {0}
OnWorn (Err Port) P = Unit {0}
OnWorn (Err Budget) P = Unit {0}
OnWorn (Err NoStore) P = Unit {0}
OnWorn (Err Exists) P = Unit {0}

-- where it stops for want of memory, P
abbrev pub OnMemory : {T : Type 0} → Result T Stop → Type 0 → Type 0
OnMemory (Ok v) P = Unit {0}
OnMemory (Err Memory) P = P
OnMemory (Err (Worn ordinal fill number)) P = Unit {0}
OnMemory (Err Disk) P = Unit {0}
OnMemory (Err Usage) P = Unit {0}
OnMemory (Err (Damaged file block)) P = Unit {0}
OnMemory (Err Port) P = Unit {0}
OnMemory (Err Budget) P = Unit {0}
OnMemory (Err NoStore) P = Unit {0}
OnMemory (Err Exists) P = Unit {0}
