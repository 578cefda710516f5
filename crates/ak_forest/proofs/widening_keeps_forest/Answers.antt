use Rattle.ak_forest.proofs.Forest.{widened}
use Rattle.ak_forest.proofs.widening_keeps_forest.Goals as goal

pub returns : goal.returns
returns c = widened
