use Rattle.std.proofs.Common.{◌≡◌, ◌++◌, take}
use Rattle.ak_base.specs.RowTexts.{doubled}
use Rattle.ak_text.proofs.names.write_doubled.Given as goal

abbrev pub invariant-loop-byte : goal.invariant-loop-byte
invariant-loop-byte l = l.row.items ≡ l.initial.row.items ++ doubled (take l.byte-index l.name)
