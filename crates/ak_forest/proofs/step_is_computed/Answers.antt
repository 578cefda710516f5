use Rattle.ak_forest.proofs.Forest.{computed}
use Rattle.ak_forest.proofs.step_is_computed.Goals as goal

pub returns : goal.returns
returns c = computed
