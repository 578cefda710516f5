use Rattle.ak_world.proofs.Closing.{close_valid, accept_valid, flush_valid}
use Rattle.ak_world.proofs.Valid.{view_valid, switch_valid, enter_valid, name_valid, point_valid}
use Rattle.ak_world.specs.Steps.{group_of}
use Rattle.ak_world.proofs.views.worlds_stay_valid.Goals as goal

pub returns-clause-view : goal.returns-clause-view
returns-clause-view c = view_valid

pub returns-clause-switch : goal.returns-clause-switch
returns-clause-switch c = switch_valid

pub returns-clause-enter : goal.returns-clause-enter
returns-clause-enter c w n is within some fits = enter_valid w n (group_of w n) is within some fits

pub returns-clause-name : goal.returns-clause-name
returns-clause-name c = name_valid

pub returns-clause-point : goal.returns-clause-point
returns-clause-point c = point_valid

pub returns-clause-close : goal.returns-clause-close
returns-clause-close c = close_valid

pub returns-clause-accept : goal.returns-clause-accept
returns-clause-accept c = accept_valid

pub returns-clause-flush : goal.returns-clause-flush
returns-clause-flush c = flush_valid
