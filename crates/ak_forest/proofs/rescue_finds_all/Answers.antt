use Rattle.ak_forest.proofs.Laws.{rescued_all}
use Rattle.ak_forest.proofs.rescue_finds_all.Goals as goal

pub returns : goal.returns
returns c = rescued_all
