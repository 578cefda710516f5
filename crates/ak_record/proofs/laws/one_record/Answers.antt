use Rattle.ak_record.proofs.Frames.{one_frame}
use Rattle.ak_record.proofs.laws.one_record.Goals as goal

pub returns : goal.returns
returns c m n d e is is' same = one_frame m n d e is is' same
