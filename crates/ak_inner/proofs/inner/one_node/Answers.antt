use Rattle.ak_inner.proofs.Nodes.{one_node}
use Rattle.ak_inner.proofs.inner.one_node.Goals as goal

pub returns : goal.returns
returns c = one_node
