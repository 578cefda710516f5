use Rattle.ak_memhost.specs.Heard.{IsNotBefore}
use Rattle.ak_memhost.proofs.heard.index_of.Given as goal

abbrev pub invariant-loop-i : goal.invariant-loop-i
invariant-loop-i l = IsNotBefore l.port l.ports l.i
