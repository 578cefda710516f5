use Rattle.ak_bytes.proofs.Heads.{head_same}
use Rattle.ak_bytes.proofs.head.one_head.Goals as goal

pub returns : goal.returns
returns c = head_same
