use Rattle.std.proofs.Common.{sym, subst}
use Rattle.ak_meta.proofs.Lawful.{first_lawful}
use Rattle.ak_meta.specs.Contents.{IsMeta}
use Rattle.ak_disk_scenarios.proofs.forests.made.Goals as goal

pub new-requires-2-clause-rules : goal.new-requires-2-clause-rules
new-requires-2-clause-rules g c = subst IsMeta (sym c.in-Ok.ensures.meta) (first_lawful c.args.limits.now c.requires)
