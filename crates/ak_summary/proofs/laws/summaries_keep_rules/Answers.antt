use Rattle.ak_summary.specs.Bounds.{IsSummary-bounded}
use Rattle.ak_summary.proofs.Orders.{IsSummary-orderly}
use Rattle.ak_summary.proofs.laws.summaries_keep_rules.Goals as goal

pub returns-clause-bounded : goal.returns-clause-bounded
returns-clause-bounded c = IsSummary-bounded

pub returns-clause-orderly : goal.returns-clause-orderly
returns-clause-orderly c = IsSummary-orderly
