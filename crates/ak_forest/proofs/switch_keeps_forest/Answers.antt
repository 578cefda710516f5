use Rattle.ak_forest.proofs.Forest.{turned}
use Rattle.ak_forest.proofs.switch_keeps_forest.Goals as goal

pub returns : goal.returns
returns c = turned
