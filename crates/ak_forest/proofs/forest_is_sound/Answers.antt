use Rattle.ak_forest.proofs.Forest.{stands}
use Rattle.ak_forest.proofs.forest_is_sound.Goals as goal

pub returns : goal.returns
returns c = stands
