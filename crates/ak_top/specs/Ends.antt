-- How a call ends, and why.
use Rattle.std.specs.Prelude.{ℕ, ◌≡◌, ◌≢◌, ◌⊎◌, List, [], ◌++◌, Result, Ok, Err, OnOk}
use Rattle.ak_base.specs.declared.limits.Limits.{Limits}
use Rattle.ak_base.specs.declared.stop.Stop.{Stop}
use Rattle.ak_base.specs.declared.stop.Stop.TheVariants.{Usage, Damaged, Disk, Port, Memory, Budget, Worn, NoStore, Exists}
use Rattle.ak_base.specs.Stops.{status_of}
use Rattle.ak_host.specs.Causes.{Rose}
use Rattle.ak_host.specs.Marks.{Mark}
use Rattle.ak_host.specs.Moments.{HostState, mark_now}
use Rattle.ak_image.specs.Images.{IsSound, StandsFor}
use Rattle.ak_image.specs.Named.{IsDamagedBy}
use Rattle.ak_meta.specs.Contents.{Content}
use Rattle.ak_node.specs.Calls.{console_of}
use Rattle.ak_node.specs.Opening.{IsFoundRecord}
use Rattle.ak_record.specs.Stops.{IsNoStore, IsTaken, IsDamaged}
use Rattle.ak_tree.specs.Stops.{OnWorn}
use Rattle.ak_words.specs.Words.{IsCommand}
use Rattle.ak_top.specs.Commands.{IsRun, Makes, Serves, Opens, scratch_limits}
use Rattle.ak_top.specs.Calls.{OnStop, IsBudget}
use Rattle.ak_top.specs.Kept.{KeepsLast}
use Rattle.ak_top.specs.Told.{IsComplete, EndsDone, AreSpent, IsWorn, HasWorn, line_of}
use Rattle.ak_world.specs.Views.{View, first_view}

-- This block is damaged by the record that was found.
pub record IsDamagedIn (old new : HostState) (file block : ℕ) : Type 0 where
  pub number : ℕ
  pub found : Content
  pub newest : IsFoundRecord number found old.files
  pub damaged : IsDamagedBy found file block new.files

-- What was damaged, for `run`: what an opening reads, or a block that was read in the call.
abbrev pub IsRunDamage : List (List ℕ) → HostState → HostState → ℕ → ℕ → Type 0
IsRunDamage words old new file block = IsRun words × (IsDamaged file block old.files ⊎ IsDamagedIn old new file block)

-- Why a call with these words ends by a stop.
abbrev pub IsEnd : List (List ℕ) → Type 0 → HostState → HostState → Stop → Type 0
IsEnd words told old new Usage = ¬ (IsCommand words)
IsEnd words told old new (Damaged file block) = Serves words × (told → IsRunDamage words old new file block)
IsEnd words told old new Disk = Rose old.disk_faults new.disk_faults
IsEnd words told old new Port = Rose old.port_faults new.port_faults
IsEnd words told old new Memory = Unit {0}
IsEnd words told old new Budget = Serves words
IsEnd words told old new (Worn ordinal fill number) = Serves words
    × (told → (view : View) → Opens words old view → HasWorn view (mark_now old) (mark_now new) (Worn ordinal fill number))
IsEnd words told old new NoStore = IsRun words × (told → IsNoStore old.files)
IsEnd words told old new Exists = (limits : Limits) × Makes words limits × (told → IsTaken old.files)

-- the console was told this
abbrev pub OnConsole : Mark → Mark → List ℕ → Type 0
OnConsole start mark line = console_of mark ≡ console_of start ++ line

-- The line of the stop is missing only where the count of faults of the ports rose.
abbrev pub TellsLine : HostState → HostState → Stop → Type 0
TellsLine old new stop = OnConsole (mark_now old) (mark_now new) (line_of stop)
    ⊎ (OnConsole (mark_now old) (mark_now new) [] × Rose old.port_faults new.port_faults)

-- The status is 0 and the console was told nothing, or it is that of a stop that has its cause and whose line was told.
abbrev pub EndsBy : List (List ℕ) → Type 0 → HostState → HostState → ℕ → Type 0
EndsBy words told old new status = ((status ≡ 0) × (told → OnConsole (mark_now old) (mark_now new) []))
    ⊎ ((stop : Stop) × (status ≡ status_of stop) × IsEnd words told old new stop × (told → TellsLine old new stop))

-- it is one of these three
abbrev pub IsOneOf : ℕ → ℕ → ℕ → ℕ → Type 0
IsOneOf a b c status = (status ≡ a) ⊎ ((status ≡ b) ⊎ (status ≡ c))

-- neither a fault of the outside nor want of memory ended the call
pub record IsOwn (status : ℕ) : Type 0 where
  pub no_disk : status ≢ 3
  pub no_port : status ≢ 4
  pub no_memory : status ≢ 5

-- a store is there already
abbrev pub IsExists : Stop → Type 0
IsExists s = s ≡ Exists

-- None of the stops that come before a store is open: no fault of the disk, want of memory, or store that is there already.
pub record IsPastOpening (s : Stop) : Type 0 where
  pub no_disk : s ≢ Disk
  pub no_memory : s ≢ Memory
  pub not_there : s ≢ Exists

abbrev pub HasOpened : Result (Unit {0}) Stop → Type 0
HasOpened (Ok v) = Unit {0}
HasOpened (Err s) = IsPastOpening s

-- the same of a status
pub record IsOpenedBy (status : ℕ) : Type 0 where
  pub no_disk : status ≢ 3
  pub no_memory : status ≢ 5
  pub not_there : status ≢ 9

-- Why a run stops: as it is opened, or as it is served.
abbrev pub IsRunStop : Type 0 → HostState → HostState → Stop → Type 0
IsRunStop told old new NoStore = told → IsNoStore old.files
IsRunStop told old new (Damaged file block) = told → IsDamaged file block old.files ⊎ IsDamagedIn old new file block
IsRunStop told old new Disk = Rose old.disk_faults new.disk_faults
IsRunStop told old new Port = Rose old.port_faults new.port_faults
IsRunStop told old new Memory = Unit {0}
IsRunStop told old new Budget = Unit {0}
IsRunStop told old new (Worn ordinal fill number) = told → (view : View) → IsSound old.files → StandsFor view old.files
    → HasWorn view (mark_now old) (mark_now new) (Worn ordinal fill number)
IsRunStop told old new Usage = ⊥
IsRunStop told old new Exists = ⊥

-- Why a store that is made stops: as it is made, or as it is served. None of its blocks is damaged.
abbrev pub IsScratchStop : Type 0 → HostState → HostState → Stop → Type 0
IsScratchStop told old new Exists = told → IsTaken old.files
IsScratchStop told old new Disk = Rose old.disk_faults new.disk_faults
IsScratchStop told old new Port = Rose old.port_faults new.port_faults
IsScratchStop told old new Memory = Unit {0}
IsScratchStop told old new Budget = Unit {0}
IsScratchStop told old new (Worn ordinal fill number) = told → HasWorn (first_view scratch_limits) (mark_now old) (mark_now new) (Worn ordinal fill number)
IsScratchStop told old new Usage = ⊥
IsScratchStop told old new (Damaged file block) = told → ⊥
IsScratchStop told old new NoStore = ⊥

-- what ends a call that finds no store, or one already, before it serves any turn
abbrev pub OnlyBy : (Stop → Type 0) → Result (Unit {0}) Stop → Type 0
OnlyBy is (Ok v) = ⊥
OnlyBy is (Err s) = is s

abbrev pub IsMissing : Stop → Type 0
IsMissing s = (s ≡ NoStore) ⊎ ((s ≡ Disk) ⊎ (s ≡ Memory))

abbrev pub IsThere : Stop → Type 0
IsThere s = (s ≡ Exists) ⊎ ((s ≡ Disk) ⊎ (s ≡ Memory))

-- A sound disk is opened: no store is missing, and none is damaged.
abbrev pub IsServing : Stop → Type 0
IsServing s = (s ≡ Disk) ⊎ ((s ≡ Port) ⊎ ((s ≡ Memory) ⊎ ((s ≡ Budget) ⊎ ((ordinal fill number : ℕ) × (s ≡ Worn ordinal fill number)))))

abbrev pub IsRefused : Stop → Type 0
IsRefused s = (s ≡ Usage) ⊎ (s ≡ Memory)

-- or there is a store already
abbrev pub IsServingOrThere : Stop → Type 0
IsServingOrThere s = IsServing s ⊎ (s ≡ Exists)

-- What turns that were served leave: where the last was `Done`, where they are spent, and where they have worn the store.
pub record HasServed (view : View) (start : Mark) (new : HostState) (result : Result (Unit {0}) Stop) : Type 0 where
  pub done : OnOk result (EndsDone view start (mark_now new))
  pub kept : OnOk result (KeepsLast view start (mark_now new) new)
  pub fresh : OnOk result (¬ (IsWorn view start (mark_now new)))
  pub spent : OnStop IsBudget result (AreSpent start (mark_now new))
  pub complete : OnStop IsBudget result (IsComplete view start (mark_now new))
  pub fresh_spent : OnStop IsBudget result (¬ (IsWorn view start (mark_now new)))
  pub worn : OnWorn result (HasWorn view start (mark_now new))

-- Where no call of the outside failed, the turn `Done` ends the call with status 0, unless memory ran out, `Done` isn't
-- among the first 2 ^ 32 turns, or the store is worn.
abbrev pub IsFinished : ℕ → View → Mark → Mark → Type 0
IsFinished status view start mark = (status ≡ 0) ⊎ ((status ≡ 5) ⊎ (AreSpent start mark ⊎ IsWorn view start mark))
