use Rattle.ak_run.proofs.Turns.{run_goes}
use Rattle.ak_run.proofs.laws.views_go_on.Goals as goal

pub returns : goal.returns
returns c world last turns replies run = run_goes turns world last replies run
