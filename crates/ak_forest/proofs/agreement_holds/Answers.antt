use Rattle.ak_forest.proofs.Laws.{agree}
use Rattle.ak_forest.proofs.agreement_holds.Goals as goal

pub returns : goal.returns
returns c = agree
