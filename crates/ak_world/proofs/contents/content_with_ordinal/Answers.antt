use Rattle.std.proofs.Common.{refl}
use Rattle.ak_world.proofs.ContentsOfNames.{kept_switched}
use Rattle.ak_world.proofs.contents.content_with_ordinal.Goals as goal

pub returns-clause-content : goal.returns-clause-content
returns-clause-content c w = refl

pub returns-clause-kept : goal.returns-clause-kept
returns-clause-kept c = kept_switched
