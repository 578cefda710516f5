use Rattle.std.proofs.Common.{sym, subst}
use Rattle.ak_meta.specs.Contents.{IsMeta}
use Rattle.ak_meta.proofs.Lawful.{first_lawful}
use Rattle.ak_checkpoint.proofs.making.begin_first.Goals as goal

pub begin-requires-clause-rules : goal.begin-requires-clause-rules
begin-requires-clause-rules c = subst IsMeta (sym c.in_ok-meta.ensures) (first_lawful c.args.limits.now c.requires.limits)
