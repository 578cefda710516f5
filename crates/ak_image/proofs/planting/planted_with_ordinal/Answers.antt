use Rattle.ak_image.proofs.Raising.{ordinal_planted}
use Rattle.ak_image.proofs.planting.planted_with_ordinal.Goals as goal

pub returns : goal.returns
returns c seen m kept bases levels meta laid planted = ordinal_planted seen m kept meta laid bases levels planted
