use Rattle.ak_image.proofs.Standing.{sound_alike_both, stands_alike_both}
use Rattle.ak_image.proofs.laws.images_agree.Goals as goal

pub returns-clause-sound : goal.returns-clause-sound
returns-clause-sound c = sound_alike_both

pub returns-clause-stands : goal.returns-clause-stands
returns-clause-stands c = stands_alike_both
