use Rattle.std.proofs.Common.{◌≡◌, length}
use Rattle.ak_inner.proofs.tests.fill.Given as goal

abbrev pub invariant-loop : goal.invariant-loop
invariant-loop l = length l.node ≡ l.counter
