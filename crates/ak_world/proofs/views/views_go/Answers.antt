use Rattle.ak_world.proofs.Going.{view_goes, switch_goes, close_goes, point_goes, points_go, flush_goes, joined}
use Rattle.ak_world.proofs.views.views_go.Goals as goal

pub returns-clause-view : goal.returns-clause-view
returns-clause-view c = view_goes

pub returns-clause-switch : goal.returns-clause-switch
returns-clause-switch c = switch_goes

pub returns-clause-close : goal.returns-clause-close
returns-clause-close c = close_goes

pub returns-clause-point : goal.returns-clause-point
returns-clause-point c = point_goes

pub returns-clause-points : goal.returns-clause-points
returns-clause-points c = points_go

pub returns-clause-flush : goal.returns-clause-flush
returns-clause-flush c = flush_goes

pub returns-clause-join : goal.returns-clause-join
returns-clause-join c = joined
