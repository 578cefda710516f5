use Rattle.ak_meta.proofs.Contents.{spelled_long}
use Rattle.ak_meta.proofs.laws.spelling_is_as_long.Goals as goal

pub returns : goal.returns
returns c = spelled_long
