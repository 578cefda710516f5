use Rattle.ak_forest.proofs.Laws.{placed}
use Rattle.ak_forest.proofs.close_keeps_sound.Goals as goal

pub returns : goal.returns
returns c = placed
