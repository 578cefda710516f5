use Rattle.std.proofs.Common.{◌≡◌, ◌≤◌, take}
use Rattle.ak_memhost.specs.State.{reads_in}
use Rattle.ak_memhost.proofs.host.telling.count_reads.Given as goal

abbrev pub invariant-loop-call : goal.invariant-loop-call
invariant-loop-call l = record { count_is : l.count ≡ reads_in (take l.call-index l.calls); few : l.count ≤ l.call-index }
