use Rattle.ak_http.proofs.Rows.{one_split, one_fault}
use Rattle.ak_http.proofs.http.one_reading.Goals as goal

pub returns-clause-split : goal.returns-clause-split
returns-clause-split c = λ row ms ns rest end s t. one_split row ms ns rest end s t

pub returns-clause-fault : goal.returns-clause-fault
returns-clause-fault c = λ row p q e f h k. one_fault row p q e f h k
