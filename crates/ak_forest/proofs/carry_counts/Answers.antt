use Rattle.ak_forest.proofs.Laws.{carried}
use Rattle.ak_forest.proofs.carry_counts.Goals as goal

pub returns : goal.returns
returns c = carried
