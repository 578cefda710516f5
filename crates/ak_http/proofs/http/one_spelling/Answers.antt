use Rattle.ak_http.proofs.Heads.{one_spelling}
use Rattle.ak_http.proofs.http.one_spelling.Goals as goal

pub returns : goal.returns
returns c = λ a b x y m n h k e. one_spelling a b x y m n h k e
