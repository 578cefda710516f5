use Rattle.ak_image.proofs.StepLaid.{leaf_laid}
use Rattle.ak_image.proofs.steps.laid_with_leaf.Goals as goal

pub returns : goal.returns
returns c = leaf_laid
