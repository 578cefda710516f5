use Rattle.std.proofs.Common.{sym, arith}
use Rattle.akl.proofs.Keeping.{marked_set, marked_past}
use Rattle.akl.proofs.real.directory.mark.Goals as goal

pub returns-then-file-len : goal.returns-then-file-len
returns-then-file-len c = rw c.mark_item.ensures (marked_set _ _ _ (omega arith) (sym c.index_mut.ensures.value))

pub returns-else-file-len : goal.returns-else-file-len
returns-else-file-len c = marked_past _ _ (omega arith)
