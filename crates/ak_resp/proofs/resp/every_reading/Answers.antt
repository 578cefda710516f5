use Rattle.ak_resp.proofs.Readers.{starts, reads_on}
use Rattle.ak_resp.proofs.resp.every_reading.Goals as goal

pub returns-clause-starts : goal.returns-clause-starts
returns-clause-starts c = starts

pub returns-clause-continues : goal.returns-clause-continues
returns-clause-continues c = λ r row bytes ms s. reads_on r row bytes ms s
