use Rattle.std.proofs.Common.{arith}
use Rattle.akl.proofs.Keeping.{given_up_set, given_up_past}
use Rattle.akl.proofs.real.directory.give_up.Goals as goal

pub returns-then-file-len : goal.returns-then-file-len
returns-then-file-len c = given_up_set _ _ _ (omega arith)

pub returns-else-file-len : goal.returns-else-file-len
returns-else-file-len c = given_up_past _ _ _ (omega arith)
