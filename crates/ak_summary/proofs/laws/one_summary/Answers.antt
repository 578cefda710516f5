use Rattle.ak_summary.specs.Ones.{IsSummary-one}
use Rattle.ak_summary.proofs.laws.one_summary.Goals as goal

pub returns : goal.returns
returns c = IsSummary-one
