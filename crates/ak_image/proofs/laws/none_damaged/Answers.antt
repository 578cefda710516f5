use Rattle.ak_image.proofs.Naming.{none_damaged}
use Rattle.ak_image.proofs.laws.none_damaged.Goals as goal

pub returns : goal.returns
returns c = none_damaged
