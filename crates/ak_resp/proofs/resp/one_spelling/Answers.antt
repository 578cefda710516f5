use Rattle.ak_resp.proofs.Whole.{prefix_free}
use Rattle.ak_resp.proofs.resp.one_spelling.Goals as goal

pub returns : goal.returns
returns c = λ a b x y m n h k e. prefix_free a b x y m n h k e
