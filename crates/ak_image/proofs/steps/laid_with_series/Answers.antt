use Rattle.ak_image.proofs.StepLaid.{series_laid}
use Rattle.ak_image.proofs.steps.laid_with_series.Goals as goal

pub returns : goal.returns
returns c = series_laid
