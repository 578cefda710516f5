use Rattle.ak_world.proofs.ContentsOfNames.{content_named, kept_named, known_stays}
use Rattle.ak_world.proofs.contents.content_with_name.Goals as goal

pub returns-clause-content : goal.returns-clause-content
returns-clause-content c = content_named

pub returns-clause-kept : goal.returns-clause-kept
returns-clause-kept c = kept_named

pub returns-clause-known : goal.returns-clause-known
returns-clause-known c = known_stays
