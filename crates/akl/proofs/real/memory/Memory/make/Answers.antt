use Rattle.akl.proofs.Views.{seen_with_item}
use Rattle.akl.proofs.real.memory.Memory.make.Goals as goal

pub returns-clause-ok : goal.returns-clause-ok
returns-clause-ok c = seen_with_item _ _ _ _ _ _ _ c.in_ok-put_item.ensures.ok c.in_ok-new.ensures c.self.view_is
