use Rattle.std.proofs.Common.{length, All}
use Rattle.ak_memhost.specs.Turns.{IsMemTurn}
use Rattle.ak_scenarios.proofs.tests.cut.Given as goal

abbrev pub invariant-loop-rest : goal.invariant-loop-rest
invariant-loop-rest l = All IsMemTurn l.turns.items

abbrev pub decreases-loop-rest : goal.decreases-loop-rest
decreases-loop-rest l = length l.rest
