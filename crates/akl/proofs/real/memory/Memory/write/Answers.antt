use Rattle.std.proofs.Common.{refl, arith}
use Rattle.akl.proofs.Views.{seen_with_block}
use Rattle.akl.proofs.real.memory.Memory.write.Goals as goal

pub returns-then-index-len-clause-ok : goal.returns-then-index-len-clause-ok
returns-then-index-len-clause-ok c = seen_with_block _ _ _ _ _ _ c.index_mut-blocks.result.now _ c.self.view_is (omega arith) c.index_mut-blocks.ensures.value refl
