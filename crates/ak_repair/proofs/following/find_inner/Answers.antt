use Rattle.std.proofs.Common.{◌∙◌, List, ap}
use Rattle.ak_inner.specs.declared.reference.Ref.{Ref}
use Rattle.ak_levels.specs.Closes.{node_ref}
use Rattle.ak_repair.proofs.ReadNodes.{IsCounted, inner_counted, counted_few, counted_bounded, counted_tally, inner_referred}
use Rattle.ak_repair.proofs.following.find_inner.Goals as goal

pub refer_node-requires-clause-few : goal.refer_node-requires-clause-few
refer_node-requires-clause-few g c =
    let read = c.in_ok-head.ensures.spelled in
    let counted : IsCounted c.args.line.level c.refs.result.now = inner_counted read.0 c.args.at c.args.line.level c.args.line.series c.args.number c.in_ok-head.head c.inner.new.into c.refs.result.now c.refs.ensures.refs read.1 in
    counted_few c.args.line.level c.refs.result.now c.requires.above c.requires.level counted

pub refer_node-requires-clause-bounded : goal.refer_node-requires-clause-bounded
refer_node-requires-clause-bounded g c =
    let read = c.in_ok-head.ensures.spelled in
    counted_bounded c.args.line.level c.refs.result.now
    (inner_counted read.0 c.args.at c.args.line.level c.args.line.series c.args.number c.in_ok-head.head c.inner.new.into c.refs.result.now c.refs.ensures.refs read.1)

pub returns-clause-tally : goal.returns-clause-tally
returns-clause-tally g c =
    let read = c.in_ok-head.ensures.spelled in
    counted_tally c.args.line.level c.args.at.0 c.refs.result.now c.refer_node.result c.requires.above c.refer_node.ensures
    (inner_counted read.0 c.args.at c.args.line.level c.args.line.series c.args.number c.in_ok-head.head c.inner.new.into c.refs.result.now c.refs.ensures.refs read.1)

pub returns-clause-referred : goal.returns-clause-referred
returns-clause-referred g c told =
    let read = c.in_ok-head.ensures.spelled in
    inner_referred _ c.args.line.series c.args.line.level c.args.number c.args.at c.in_ok-head.head c.inner.new.into read.0 c.refer_node.result c.requires.above read.1 (c.in_ok-head.ensures.found told)
    (c.refer_node.ensures ∙ ap (λ (rs : List Ref). node_ref c.args.at.0 rs) c.refs.ensures.refs)
