use Rattle.ak_volumes.proofs.Switching.{AreOrdinals-switched}
use Rattle.ak_volumes.proofs.laws.ordinals_stay_lawful.Goals as goal

pub returns-clause-switched : goal.returns-clause-switched
returns-clause-switched c = AreOrdinals-switched
