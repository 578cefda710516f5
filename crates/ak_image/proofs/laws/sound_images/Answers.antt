use Rattle.ak_image.proofs.Standing.{sound_view, sound_laid}
use Rattle.ak_image.proofs.laws.sound_images.Goals as goal

pub returns-clause-view : goal.returns-clause-view
returns-clause-view c = sound_view

pub returns-clause-laid : goal.returns-clause-laid
returns-clause-laid c = sound_laid
