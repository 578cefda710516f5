use Rattle.std.proofs.Common.{refl}
use Rattle.akl.proofs.Keeping.{with_mark_err}
use Rattle.akl.proofs.real.directory.mark_item.Goals as goal

pub returns-in-Ok : goal.returns-in-Ok
returns-in-Ok c = rw c.in-Ok.is refl

pub returns-in_default : goal.returns-in_default
returns-in_default c = with_mark_err _ c.in_default.not-Ok
