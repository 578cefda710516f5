use Rattle.ak_host.proofs.Passing.{disk_weaker}
use Rattle.ak_node.proofs.Starting.{first_is}
use Rattle.ak_top.proofs.Making.{free_none, making}
use Rattle.ak_top.proofs.top.create.Goals as goal

pub returns-in_err-make_store-clause-moments : goal.returns-in_err-make_store-clause-moments
returns-in_err-make_store-clause-moments g c told free =
    disk_weaker (c.make_store.ensures.moments told (λ disk left. free_none disk (free disk left))) (making c.args.limits c.requires)

pub returns-clause-moments : goal.returns-clause-moments
returns-clause-moments g c told free =
    disk_weaker (c.make_store.ensures.moments told (λ disk left. free_none disk (free disk left))) (making c.args.limits c.requires)

pub returns-clause-made : goal.returns-clause-made
returns-clause-made g c told left leaves =
    first_is c.args.limits (g.D.Outside.state c.make_store.new.disk) c.requires (c.in_ok-make_store.ensures.rests told) (c.in_ok-make_store.ensures.empty told) left leaves
