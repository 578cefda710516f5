use Rattle.ak_world.proofs.Opened.{opened_content, opened_kept, opened_valid}
use Rattle.ak_world.proofs.contents.content_opened.Goals as goal

pub returns-clause-content : goal.returns-clause-content
returns-clause-content c = opened_content

pub returns-clause-kept : goal.returns-clause-kept
returns-clause-kept c v is may = opened_kept v may

pub returns-clause-valid : goal.returns-clause-valid
returns-clause-valid c = opened_valid
