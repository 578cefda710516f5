use Rattle.ak_run.proofs.Holding.{views_hold}
use Rattle.ak_run.proofs.laws.views_hold_accepted_points.Goals as goal

pub returns : goal.returns
returns c view turns last replies rules may run = views_hold view turns last replies rules may run
