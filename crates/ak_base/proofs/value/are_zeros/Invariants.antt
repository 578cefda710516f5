use Rattle.std.proofs.Common.{take}
use Rattle.ak_base.specs.Values.{AreZeros}
use Rattle.ak_base.proofs.value.are_zeros.Given as goal

abbrev pub invariant-loop-byte : goal.invariant-loop-byte
invariant-loop-byte l = AreZeros (take l.byte-index l.text)
