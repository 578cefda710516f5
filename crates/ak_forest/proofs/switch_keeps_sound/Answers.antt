use Rattle.ak_forest.proofs.Laws.{switched}
use Rattle.ak_forest.proofs.switch_keeps_sound.Goals as goal

pub returns : goal.returns
returns c = switched
