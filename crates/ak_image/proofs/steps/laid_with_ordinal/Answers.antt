use Rattle.ak_image.proofs.Raising.{ordinal_laid}
use Rattle.ak_image.proofs.steps.laid_with_ordinal.Goals as goal

pub returns : goal.returns
returns c = ordinal_laid
