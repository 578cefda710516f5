use Rattle.std.proofs.Common.{All}
use Rattle.ak_memhost.specs.Turns.{IsMemTurn}
use Rattle.ak_scenarios.proofs.sessions.turns.Given as goal

abbrev pub invariant-loop-port : goal.invariant-loop-port
invariant-loop-port g l = All IsMemTurn l.list.items
