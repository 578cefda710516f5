use Rattle.std.proofs.Common.{◌+◌, ◌∙◌, ap}
use Rattle.std.proofs.lemmas.List.{take_all}
use Rattle.ak_summary.proofs.Parts.{rest_all}
use Rattle.ak_levels.specs.Joins.{joined_refs}
use Rattle.ak_levels.proofs.Joined.{joined_one, joined_more, can_join_more}
use Rattle.ak_levels.proofs.lifting.joined_summary.Goals as goal

pub loop-r-init : goal.loop-r-init
loop-r-init c = joined_one c.args.refs.now _ c.requires.some

pub join-whole-requires : goal.join-whole-requires
join-whole-requires c = can_join_more c.args.refs.now c.loop-r.r-index _ c.loop-r.whole c.loop-r-test.true c.requires.few c.requires.bounded c.loop-r.invariant

pub loop-r-preserved : goal.loop-r-preserved
loop-r-preserved c = joined_more c.args.refs.now c.loop-r.r-index _ c.loop-r.whole c.join-whole.result c.loop-r-test.true c.loop-r.invariant c.join-whole.ensures.fields

pub returns : goal.returns
returns c = c.loop-r.invariant ∙ ap joined_refs (take_all (c.loop-r.r-index + 1) c.args.refs.now (rest_all c.args.refs.now c.loop-r.r-index c.requires.some c.loop-r-test.false))
