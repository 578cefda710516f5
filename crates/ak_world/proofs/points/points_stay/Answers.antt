use Rattle.ak_world.proofs.Accepting.{close_stays, flush_stays, name_comes}
use Rattle.ak_world.proofs.points.points_stay.Goals as goal

pub returns-clause-close : goal.returns-clause-close
returns-clause-close c = close_stays

pub returns-clause-flush : goal.returns-clause-flush
returns-clause-flush c = flush_stays

pub returns-clause-name : goal.returns-clause-name
returns-clause-name c = name_comes
