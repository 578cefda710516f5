use Rattle.std.proofs.Common.{◌≡◌, ◌++◌, drop}
use Rattle.ak_meta.specs.Leaves.{addresses_from}
use Rattle.ak_meta.proofs.entering.rescue_levels.Given as goal

abbrev pub invariant-loop-level : goal.invariant-loop-level
invariant-loop-level l = l.rescue ≡ addresses_from l.level l.at.0 ++ drop l.level l.fn.rescue
