use Rattle.ak_forest.proofs.Laws.{dead_below}
use Rattle.ak_forest.proofs.dead_has_no_live_leaf.Goals as goal

pub returns : goal.returns
returns c = dead_below
