use Rattle.ak_forest.proofs.Forest.{opened_all}
use Rattle.ak_forest.proofs.opening_gives_forest.Goals as goal

pub returns : goal.returns
returns c = opened_all
