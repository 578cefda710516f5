use Rattle.ak_forest.proofs.Forest.{closed}
use Rattle.ak_forest.proofs.close_keeps_forest.Goals as goal

pub returns : goal.returns
returns c = closed
