use Rattle.ak_world.proofs.ContentsOfLeaves.{content_closed, kept_closed, leaves_known}
use Rattle.ak_world.proofs.contents.content_with_leaf.Goals as goal

pub returns-clause-content : goal.returns-clause-content
returns-clause-content c = content_closed

pub returns-clause-kept : goal.returns-clause-kept
returns-clause-kept c = kept_closed

pub returns-clause-leaves : goal.returns-clause-leaves
returns-clause-leaves c w n within = leaves_known w.opened.content.series w.series n within
