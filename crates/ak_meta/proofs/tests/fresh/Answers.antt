use Rattle.std.proofs.Common.{sym, subst}
use Rattle.ak_meta.specs.Contents.{IsMeta}
use Rattle.ak_meta.proofs.Lawful.{first_lawful}
use Rattle.ak_meta.proofs.tests.fresh.Goals as goal

pub returns : goal.returns
returns c = subst IsMeta (sym c.in_ok-meta.ensures) (first_lawful c.args.limits c.requires)
