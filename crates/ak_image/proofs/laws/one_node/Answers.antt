use Rattle.ak_image.proofs.OneNode.{one_node, one_block}
use Rattle.ak_image.proofs.laws.one_node.Goals as goal

pub returns-clause-node : goal.returns-clause-node
returns-clause-node c = one_node

pub returns-clause-block : goal.returns-clause-block
returns-clause-block c = one_block
