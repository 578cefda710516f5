use Rattle.ak_forest.proofs.More.{same_said}
use Rattle.ak_forest.proofs.readings_agree.Goals as goal

pub returns : goal.returns
returns c = same_said
