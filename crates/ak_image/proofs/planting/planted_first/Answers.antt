use Rattle.ak_image.proofs.Growing.{planted_begun}
use Rattle.ak_image.proofs.planting.planted_first.Goals as goal

pub returns : goal.returns
returns c = planted_begun
