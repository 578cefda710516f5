use Rattle.ak_summary.proofs.Folded.{joined_thrice}
use Rattle.ak_summary.proofs.laws.joins_associate.Goals as goal

pub returns : goal.returns
returns c = joined_thrice
