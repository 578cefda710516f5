use Rattle.std.proofs.Common.{◌∙◌, [], sym, ap, subst}
use Rattle.ak_host.proofs.Passing.{disk_weaker}
use Rattle.ak_meta.proofs.Lawful.{first_lawful}
use Rattle.ak_meta.specs.Contents.{Content, IsMeta}
use Rattle.ak_node.proofs.Starting.{making_first, node_stands, first_holds, made_there, there_of, node_serves, opened_ready}
use Rattle.ak_record.specs.Volumes.{AreThere as AreFilesThere}
use Rattle.ak_world.specs.Views.{first_view}
use Rattle.ak_node.proofs.node.Node.make.Goals as goal

pub returns-in_err-meta-clause-moments : goal.returns-in_err-meta-clause-moments
returns-in_err-meta-clause-moments g c told none = disk_weaker (c.make_store.ensures.moments told none) (making_first c.args.limits.now c.requires)

pub keep_first-requires-clause-rules : goal.keep_first-requires-clause-rules
keep_first-requires-clause-rules g c = subst IsMeta (sym c.in_ok-meta.ensures.meta) (first_lawful c.args.limits.now c.requires)

pub keep_first-requires-clause-empty : goal.keep_first-requires-clause-empty
keep_first-requires-clause-empty g c = ap (λ (m : Content). m.series) c.in_ok-meta.ensures.meta

pub returns-in-Ok-clause-stands : goal.returns-in-Ok-clause-stands
returns-in-Ok-clause-stands g c told =
    let limits = c.args.limits.now in
    let host = g.D.Outside.state c.make_store.new.disk in
    node_stands (first_view limits) c.over.result c.in-Ok.keeper host c.over.ensures.stop c.over.ensures.keeper c.over.ensures.sessions
    (first_holds limits c.in_ok-meta.meta c.in_ok-meta.check c.in-Ok.keeper host c.requires c.in_ok-meta.ensures.meta c.in_ok-meta.ensures.saved.1 c.in-Ok.ensures.opened
    (c.in_ok-meta.ensures.rests told) (c.in_ok-meta.ensures.empty told))

pub returns-in-Ok-clause-moments : goal.returns-in-Ok-clause-moments
returns-in-Ok-clause-moments g c told none = disk_weaker (c.make_store.ensures.moments told none) (making_first c.args.limits.now c.requires)

pub returns-in-Err-clause-moments : goal.returns-in-Err-clause-moments
returns-in-Err-clause-moments g c told none = disk_weaker (c.make_store.ensures.moments told none) (making_first c.args.limits.now c.requires)

pub returns-in-Ok-clause-ready : goal.returns-in-Ok-clause-ready
returns-in-Ok-clause-ready g c =
    let limits = c.args.limits.now in
    let e = c.in_ok-meta.ensures in
    let meta = c.in_ok-meta.meta in
    let host = g.D.Outside.state c.make_store.new.disk in
    let rules : IsMeta meta = subst IsMeta (sym e.meta) (first_lawful limits c.requires) in
    let there = there_of meta host rules (subst (λ (m : Content). AreFilesThere m.limits host.sizes) (sym e.meta) (made_there limits host.sizes e.made)) in
    node_serves g.D.Outside.tells c.over.result c.in-Ok.keeper host c.over.ensures.keeper c.over.ensures.sessions
    (opened_ready g.D.Outside.tells meta [] c.in_ok-meta.check c.in-Ok.keeper host c.in-Ok.ensures.opened e.gate.0.whole e.gate.0.opened e.saved.0 (e.saved.1 ∙ sym e.gate.2) e.gate.0.sized there e.fits)
