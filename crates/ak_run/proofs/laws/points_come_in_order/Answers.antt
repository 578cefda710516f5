use Rattle.ak_run.proofs.Accepting.{run_gains}
use Rattle.ak_run.proofs.laws.points_come_in_order.Goals as goal

pub returns : goal.returns
returns c world last turns replies run name = run_gains name turns world last replies run
