use Rattle.ak_run.proofs.Turns.{every_run}
use Rattle.ak_run.proofs.laws.every_run.Goals as goal

pub returns : goal.returns
returns c view turns = every_run view turns
