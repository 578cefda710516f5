use Rattle.ak_run.specs.Run.{world_of}
use Rattle.ak_run.proofs.Orders.{orderly_opened}
use Rattle.ak_run.proofs.Turns.{run_orderly}
use Rattle.ak_run.proofs.laws.views_hold_prefixes.Goals as goal

pub returns : goal.returns
returns c view turns last replies rules may run = run_orderly turns (world_of view) last replies run (orderly_opened view rules may)
