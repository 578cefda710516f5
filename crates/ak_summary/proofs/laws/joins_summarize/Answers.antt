use Rattle.ak_summary.proofs.Folded.{summary_append}
use Rattle.ak_summary.proofs.laws.joins_summarize.Goals as goal

pub returns : goal.returns
returns c = summary_append
