use Rattle.ak_image.proofs.Entering.{planted_group}
use Rattle.ak_image.proofs.planting.planted_with_leaf.Goals as goal

pub returns : goal.returns
returns c = planted_group
