use Rattle.ak_meta.proofs.Lawful.{first_lawful, series_lawful, close_lawful}
use Rattle.ak_meta.proofs.Rooms.{filled_lawful, switched_lawful, filled_room}
use Rattle.ak_meta.proofs.laws.meta_stays_lawful.Goals as goal

pub returns-clause-first : goal.returns-clause-first
returns-clause-first c = first_lawful

pub returns-clause-series : goal.returns-clause-series
returns-clause-series c = series_lawful

pub returns-clause-leaf : goal.returns-clause-leaf
returns-clause-leaf c = close_lawful

pub returns-clause-filled : goal.returns-clause-filled
returns-clause-filled c = filled_lawful

pub returns-clause-switched : goal.returns-clause-switched
returns-clause-switched c = switched_lawful

pub returns-clause-room : goal.returns-clause-room
returns-clause-room c = filled_room
