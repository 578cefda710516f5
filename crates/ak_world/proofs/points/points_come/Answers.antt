use Rattle.ak_world.proofs.Accepting.{accept_comes, room_comes, worn_stays, put_gains}
use Rattle.ak_world.proofs.points.points_come.Goals as goal

pub returns-clause-accept : goal.returns-clause-accept
returns-clause-accept c = accept_comes

pub returns-clause-room : goal.returns-clause-room
returns-clause-room c = room_comes

pub returns-clause-worn : goal.returns-clause-worn
returns-clause-worn c = worn_stays

pub returns-clause-put : goal.returns-clause-put
returns-clause-put c = put_gains
