use Rattle.std.proofs.Common.{◌∙◌, sym}
use Rattle.ak_meta.proofs.Contents.{one_meta}
use Rattle.ak_meta.proofs.laws.one_content.Goals as goal

pub returns : goal.returns
returns c bytes m d spells spells' = one_meta m d spells.rules_are spells'.rules_are (sym spells.is ∙ spells'.is)
