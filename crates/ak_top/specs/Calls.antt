-- What taking turns leaves, and why it stops.
use Rattle.std.specs.Prelude.{ℕ, ◌≡◌, ◌⊎◌, ◌≤◌, ◌++◌, [], ◌∷◌, List, Result, Ok, Err}
use Rattle.ak_base.specs.declared.stop.Stop.{Stop}
use Rattle.ak_base.specs.declared.stop.Stop.TheVariants.{Budget}
use Rattle.ak_host.specs.Causes.{Rose}
use Rattle.ak_host.specs.Marks.{Mark, Taken}
use Rattle.ak_host.specs.Moments.{HostState}
use Rattle.ak_meta.specs.Contents.{Content}
use Rattle.ak_node.specs.Calls.{IsNodeStop, Told}
use Rattle.ak_node.specs.Standing.{AfterAct, went_of}
use Rattle.ak_node.specs.declared.node.Node.{Node}
use Rattle.ak_node.specs.declared.node.Went.{Went}
use Rattle.ak_run.specs.Run.{World}

-- A run of turns stops as a node does whose record was this, or where its turns are spent.
abbrev pub IsServeStop : Type 0 → Content → HostState → HostState → Stop → Type 0
IsServeStop told was old new s = IsNodeStop told was old new s ⊎ (s ≡ Budget)

abbrev pub ServeStopsBy : Type 0 → Content → HostState → HostState → Result (Unit {0}) Stop → Type 0
ServeStopsBy told was old new (Ok v) = Unit {0}
ServeStopsBy told was old new (Err s) = IsServeStop told was old new s

pub record HasServeStops (told : Type 0) (was : Content) (old new : HostState) (result : Result (Unit {0}) Stop) : Type 0 where
  pub disk_later : old.disk_faults ≤ new.disk_faults
  pub port_later : old.port_faults ≤ new.port_faults
  pub stops : ServeStopsBy told was old new result

-- where it stops by this
abbrev pub OnStop : {T : Type 0} → (Stop → Type 0) → Result T Stop → Type 0 → Type 0
OnStop is (Ok v) P = Unit {0}
OnStop is (Err s) P = is s → P

abbrev pub IsBudget : Stop → Type 0
IsBudget s = s ≡ Budget

-- The console was told the line, or nothing where the count of faults rose.
abbrev pub HasTold : ℕ → ℕ → Mark → Mark → List ℕ → Type 0
HasTold before now start mark line = Told start mark 0 line ⊎ ((mark ≡ start) × Rose before now)

-- after a turn, and after what `Done` asks for
pub record AfterWhole (world : World) (start mark : Mark) (node : Node) (host : HostState) (went : Went) : Type 0 where
  pub taking : Taken
  pub taken : Mark
  pub turns_are : taken.turns ≡ start.turns ++ taking ∷ []
  pub tellings_are : taken.tellings ≡ start.tellings
  pub acted : AfterAct world taking taken mark node host
  pub went_is : went ≡ went_of taking
