-- What calls of the node leave, and why they stop.
use Rattle.std.specs.Prelude.{ℕ, ◌≡◌, ◌≤◌, ◌++◌, ◌==◌, if◌then◌else◌, List, [], Result, Ok, Err}
use Rattle.ak_base.specs.declared.stop.Stop.{Stop}
use Rattle.ak_base.specs.declared.stop.Stop.TheVariants.{Usage, Damaged, Disk, Port, Memory, Budget, Worn, NoStore, Exists}
use Rattle.ak_host.specs.Causes.{Rose}
use Rattle.ak_host.specs.Marks.{Mark, Telling, told_to}
use Rattle.ak_host.specs.Moments.{HostState, mark_now}
use Rattle.ak_image.specs.Blocks.{seen_in}
use Rattle.ak_image.specs.Named.{IsDamagedBy}
use Rattle.ak_meta.specs.Contents.{Content}
use Rattle.ak_tree.specs.Later.{Becomes}

-- A node whose record was this stops for want of memory, where a call of the disk or of the ports failed and their count of
-- faults rose, where a block is damaged by each record that had become this one, or since the store is worn.
abbrev pub IsNodeStop : Type 0 → Content → HostState → HostState → Stop → Type 0
IsNodeStop told was old new Memory = Unit {0}
IsNodeStop told was old new Disk = Rose old.disk_faults new.disk_faults
IsNodeStop told was old new Port = Rose old.port_faults new.port_faults
IsNodeStop told was old new (Damaged file block) = told → (found : Content) → Becomes (seen_in was.ordinals.volumes old.files) found was
    → IsDamagedBy found file block new.files
IsNodeStop told was old new (Worn ordinal fill number) = Unit {0}
IsNodeStop told was old new Usage = ⊥
IsNodeStop told was old new Budget = ⊥
IsNodeStop told was old new NoStore = ⊥
IsNodeStop told was old new Exists = ⊥

abbrev pub StopsBy : {T : Type 0} → Type 0 → Content → HostState → HostState → Result T Stop → Type 0
StopsBy told was old new (Ok v) = Unit {0}
StopsBy told was old new (Err s) = IsNodeStop told was old new s

-- The counts of faults have not fallen, the sizes of the files are as they were, and a stop has its cause.
pub record HasStops {T : Type 0} (told : Type 0) (was : Content) (old new : HostState) (result : Result T Stop) : Type 0 where
  pub disk_later : old.disk_faults ≤ new.disk_faults
  pub port_later : old.port_faults ≤ new.port_faults
  pub sizes : new.sizes ≡ old.sizes
  pub stops : StopsBy told was old new result

-- no block is damaged, nor is the store worn
abbrev pub IsOutside : Stop → Type 0
IsOutside Memory = Unit {0}
IsOutside Disk = Unit {0}
IsOutside Port = Unit {0}
IsOutside (Damaged file block) = ⊥
IsOutside (Worn ordinal fill number) = ⊥
IsOutside Usage = ⊥
IsOutside Budget = ⊥
IsOutside NoStore = ⊥
IsOutside Exists = ⊥

-- no block is damaged
abbrev pub IsSoundStop : Stop → Type 0
IsSoundStop Memory = Unit {0}
IsSoundStop Disk = Unit {0}
IsSoundStop Port = Unit {0}
IsSoundStop (Damaged file block) = ⊥
IsSoundStop (Worn ordinal fill number) = Unit {0}
IsSoundStop Usage = Unit {0}
IsSoundStop Budget = Unit {0}
IsSoundStop NoStore = Unit {0}
IsSoundStop Exists = Unit {0}

-- all that the console was told
abbrev pub console_of : Mark → List ℕ
console_of mark = told_to 0 mark.tellings

-- the console was told nothing more
abbrev pub IsSilent : HostState → HostState → Type 0
IsSilent old new = console_of (mark_now new) ≡ console_of (mark_now old)

-- no turn was taken, and a port was told these bytes
pub record Told (start mark : Mark) (port : ℕ) (bytes : List ℕ) : Type 0 where
  pub tellings : List Telling
  pub turns_are : mark.turns ≡ start.turns
  pub tellings_are : mark.tellings ≡ start.tellings ++ tellings
  pub told : (at : ℕ) → told_to at tellings ≡ (if port == at then bytes else [])

-- the list begins with these
pub record Begins (front list : List ℕ) : Type 0 where
  pub rest : List ℕ
  pub is : list ≡ front ++ rest
