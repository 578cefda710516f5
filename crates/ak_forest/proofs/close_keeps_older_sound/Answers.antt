use Rattle.ak_forest.proofs.More.{older_kept}
use Rattle.ak_forest.proofs.close_keeps_older_sound.Goals as goal

pub returns : goal.returns
returns c = older_kept
