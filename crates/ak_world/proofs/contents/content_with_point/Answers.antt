use Rattle.ak_world.proofs.ContentsOfNames.{content_written, kept_written}
use Rattle.ak_world.proofs.contents.content_with_point.Goals as goal

pub returns-clause-content : goal.returns-clause-content
returns-clause-content c = content_written

pub returns-clause-kept : goal.returns-clause-kept
returns-clause-kept c = kept_written
