use Rattle.ak_image.proofs.Standing.{laid_image}
use Rattle.ak_image.proofs.laws.laid_images.Goals as goal

pub returns : goal.returns
returns c = laid_image
