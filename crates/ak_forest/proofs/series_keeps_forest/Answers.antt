use Rattle.ak_forest.proofs.Forest.{added}
use Rattle.ak_forest.proofs.series_keeps_forest.Goals as goal

pub returns : goal.returns
returns c = added
