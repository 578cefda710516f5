use Rattle.ak_host.specs.Marks.{idle}
use Rattle.ak_node.proofs.Turns.{quiet_after, no_idle}
use Rattle.std.proofs.Common.{ap}
use Rattle.ak_node.specs.declared.keeper.Keeper.{Keeper}
use Rattle.ak_node.proofs.Staying.{ok_is}
use Rattle.ak_tree.proofs.Becoming.{origins_it}
use Rattle.ak_node.proofs.node.Node.act_on.Goals as goal

pub returns-in-Idle-clause-after : goal.returns-in-Idle-clause-after
returns-in-Idle-clause-after g c told world stands = rw c.in-Idle.is (quiet_after world _ idle _ (g.H.Outside.state c.args.host.now) (no_idle world stands.holds.keeps.not_worn) stands)

pub returns-in-End-clause-stops : goal.returns-in-End-clause-stops
returns-in-End-clause-stops g c = c.end.ensures.stops c.args.self.now.keeper.forest.meta

pub returns-in-End-clause-becomes : goal.returns-in-End-clause-becomes
returns-in-End-clause-becomes g c told =
    ok_is c.end.result (origins_it (g.H.Outside.state c.args.host.now) (g.H.Outside.state c.end.new.host) c.args.self.now.keeper.forest.meta c.end.new.self.keeper.forest.meta (ap (λ (k : Keeper). k.forest.meta) c.end.ensures.keeper) (c.end.ensures.files told))

pub returns-in-Idle-clause-becomes : goal.returns-in-Idle-clause-becomes
returns-in-Idle-clause-becomes g c told found was = was

pub returns-in-Done-clause-becomes : goal.returns-in-Done-clause-becomes
returns-in-Done-clause-becomes g c told found was = was
