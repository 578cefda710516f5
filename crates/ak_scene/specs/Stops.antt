-- Why a query stops.
use Rattle.std.specs.Prelude.{ℕ}
use Rattle.ak_base.specs.declared.stop.Stop.{Stop}
use Rattle.ak_base.specs.declared.stop.Stop.TheVariants.{Usage, Damaged, Disk, Port, Memory, Budget, Worn, NoStore, Exists}
use Rattle.ak_host.specs.Causes.{Rose}
use Rattle.ak_host.specs.Moments.{HostState}

-- A read failed and the count of faults rose, or a block is damaged, for which there is a reason. Memory is never wanting.
abbrev pub IsQueryStop : (ℕ → ℕ → Type 0) → HostState → HostState → Stop → Type 0
IsQueryStop reason old new Disk = Rose old.disk_faults new.disk_faults
IsQueryStop reason old new (Damaged file block) = reason file block
IsQueryStop reason old new Memory = ⊥
IsQueryStop reason old new (Worn ordinal fill number) = ⊥
IsQueryStop reason old new Port = ⊥
IsQueryStop reason old new Usage = ⊥
IsQueryStop reason old new Budget = ⊥
IsQueryStop reason old new NoStore = ⊥
IsQueryStop reason old new Exists = ⊥
