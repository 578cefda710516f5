use Rattle.std.proofs.Common.{◌≡◌, ◌++◌, take}
use Rattle.ak_base.specs.RowTexts.{doubled}
use Rattle.ak_run.proofs.replies.write_doubled.Given as goal

abbrev pub invariant-loop-byte : goal.invariant-loop-byte
invariant-loop-byte l = l.text ≡ l.initial.text ++ doubled (take l.byte-index l.name)
