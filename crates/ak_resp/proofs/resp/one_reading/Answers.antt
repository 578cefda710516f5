use Rattle.ak_resp.proofs.Rows.{one_split, one_place, one_refusal}
use Rattle.ak_resp.proofs.resp.one_reading.Goals as goal

pub returns-clause-split : goal.returns-clause-split
returns-clause-split c = λ row ms ns rest end s t. one_split row ms ns rest end s t

pub returns-clause-place : goal.returns-clause-place
returns-clause-place c = λ row p q h k. one_place row p q h k

pub returns-clause-refusal : goal.returns-clause-refusal
returns-clause-refusal c = λ row p q f g h k. one_refusal row p q f g h k
