-- What a fold has come to.
use Rattle.std.specs.Prelude.{◌≡◌, ℕ, ◌+◌, ◌≤◌, List, ◌++◌, Option, Some, None, Result, IfOk, IfErr}
use Rattle.ak_base.specs.declared.point.Point.{Point}
use Rattle.ak_base.specs.declared.stop.Stop.{Stop}
use Rattle.ak_base.specs.declared.stop.Stop.TheVariants.{Disk}
use Rattle.ak_host.specs.Moments.{HostState}
use Rattle.ak_base.specs.Selections.{IsOpen}
use Rattle.ak_select.specs.Windows.{chosen, summed}
use Rattle.ak_base.specs.declared.filter.Filter.{Filter}
use Rattle.ak_select.specs.declared.window.Window.{Window}
use Rattle.ak_summary.specs.Summaries.{IsBounded}
use Rattle.ak_summary.specs.declared.summary.Summary.{Summary}

-- of no more than so many points, with a sum that they can have
pub record IsUpTo (most : ℕ) (s : Summary) : Type 0 where
  pub count : s.count ≤ most
  pub bounded : IsBounded s

-- none, or one of no more than so many
abbrev pub AreUpTo : ℕ → Option Summary → Type 0
AreUpTo most None = Unit {0}
AreUpTo most (Some s) = IsUpTo most s

-- What went before and what is selected of these points is summed. It stops only where the disk fails, and reads no more blocks
-- than so many where there is no filter.
pub record IsFolded (w : Window) (f : Filter) (before points : List Point) (cost : ℕ) (old new : HostState) (result : Result (Option Summary) Stop) : Type 0 where
  pub value : IfOk result (λ s. s ≡ summed (before ++ chosen w f points))
  pub sound : IfErr result (λ stop. stop ≡ Disk)
  pub few : IsOpen f → new.reads ≤ old.reads + cost
