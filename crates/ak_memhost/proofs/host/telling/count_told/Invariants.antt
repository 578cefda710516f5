use Rattle.std.proofs.Common.{◌≡◌, take}
use Rattle.ak_memhost.specs.State.{told_in}
use Rattle.ak_memhost.proofs.host.telling.count_told.Given as goal

abbrev pub invariant-loop-call : goal.invariant-loop-call
invariant-loop-call l = l.count ≡ told_in l.port (take l.call-index l.calls)
