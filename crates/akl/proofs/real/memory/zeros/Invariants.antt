use Rattle.std.proofs.Common.{◌≡◌}
use Rattle.ak_host.specs.Files.{zero_blocks}
use Rattle.akl.proofs.real.memory.zeros.Given as goal

abbrev pub invariant-loop-made : goal.invariant-loop-made
invariant-loop-made l = l.file.items ≡ zero_blocks l._made
