use Rattle.ak_summary.proofs.Folded.{IsSummary-computed, IsSummary-computes}
use Rattle.ak_summary.proofs.laws.computed_summary.Goals as goal

pub returns-clause-is : goal.returns-clause-is
returns-clause-is c = IsSummary-computed

pub returns-clause-only : goal.returns-clause-only
returns-clause-only c = IsSummary-computes
