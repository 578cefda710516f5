use Rattle.ak_forest.proofs.Forest.{born}
use Rattle.ak_forest.proofs.birth_gives_forest.Goals as goal

pub returns : goal.returns
returns c = born
