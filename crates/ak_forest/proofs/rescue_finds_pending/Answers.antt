use Rattle.ak_forest.proofs.Laws.{found_all}
use Rattle.ak_forest.proofs.rescue_finds_pending.Goals as goal

pub returns : goal.returns
returns c = found_all
