use Rattle.ak_image.proofs.Growing.{planted_same}
use Rattle.ak_image.proofs.planting.planted_agrees.Goals as goal

pub returns : goal.returns
returns c = planted_same
