use Rattle.std.proofs.Common.{arith, rules, Bool, ◌∙◌}
use Rattle.ak_host.proofs.Passing.{goes_on}
use Rattle.ak_node.proofs.Stopping.{worn_handed, stops_behind}
use Rattle.ak_node.proofs.reading.read.Goals as goal

pub returns-in_err-advance-clause-reads : goal.returns-in_err-advance-clause-reads
returns-in_err-advance-clause-reads g c told begun at none = c.advance.ensures.reads told begun (c.loop.invariant.reads told begun at) none ∙ c.loop.invariant.queries told begun at none

pub returns-in_err-advance-clause-worn : goal.returns-in_err-advance-clause-worn
returns-in_err-advance-clause-worn g c told begun at =
    worn_handed Bool c.from_residual.result c.in_err-advance.field-0.0 c.from_residual.ensures.1 (λ stop wears. wears) (c.in_err-advance.ensures.worn told begun (c.loop.invariant.reads told begun at))

pub returns-then-not-branch-clause-reads : goal.returns-then-not-branch-clause-reads
returns-then-not-branch-clause-reads g c told begun at none = c.advance.ensures.reads told begun (c.loop.invariant.reads told begun at) none ∙ c.loop.invariant.queries told begun at none

pub returns-then-not-branch-clause-after : goal.returns-then-not-branch-clause-after
returns-then-not-branch-clause-after g c told begun at = c.in_ok-advance.ensures.last told begun (c.loop.invariant.reads told begun at) (search rules)

pub returns-in_err-advance-clause-moments : goal.returns-in_err-advance-clause-moments
returns-in_err-advance-clause-moments g c told begun at =
    goes_on (c.loop.invariant.moments told begun at) (c.advance.ensures.moments told begun (c.loop.invariant.reads told begun at)) (λ mark is. is) (λ mark disk is left. left)

pub returns-then-not-branch-clause-moments : goal.returns-then-not-branch-clause-moments
returns-then-not-branch-clause-moments g c told begun at =
    goes_on (c.loop.invariant.moments told begun at) (c.advance.ensures.moments told begun (c.loop.invariant.reads told begun at)) (λ mark is. is) (λ mark disk is left. left)

pub loop-preserved : goal.loop-preserved
loop-preserved g c = record {
  within = c.advance.ensures.within;
  disk_later = omega (arith, c.advance.ensures.stops.disk_later, c.loop.invariant.disk_later);
  port_later = omega (arith, c.advance.ensures.stops.port_later, c.loop.invariant.port_later);
  sizes = c.advance.ensures.stops.sizes ∙ c.loop.invariant.sizes;
  port = c.advance.ensures.port ∙ c.loop.invariant.port;
  silent = λ told. c.advance.ensures.silent told ∙ c.loop.invariant.silent told;
  turns = λ told. c.advance.ensures.turns told ∙ c.loop.invariant.turns told;
  becomes = λ told found was. c.in_ok-advance.ensures.becomes told found (c.loop.invariant.becomes told found was);
  ready = c.in_ok-advance.ensures.ready;
  reads = λ told begun at. c.in_ok-advance.ensures.more told begun (c.loop.invariant.reads told begun at) (search rules);
  queries = λ told begun at none. c.advance.ensures.reads told begun (c.loop.invariant.reads told begun at) none ∙ c.loop.invariant.queries told begun at none;
  moments = λ told begun at. goes_on (c.loop.invariant.moments told begun at) (c.advance.ensures.moments told begun (c.loop.invariant.reads told begun at)) (λ mark is. is) (λ mark disk is left. left);
}

pub loop-init : goal.loop-init
loop-init g c = search rules

pub returns-in_err-advance-clause-stops : goal.returns-in_err-advance-clause-stops
returns-in_err-advance-clause-stops g c =
    let before = c.loop.invariant in
    let old = g.H.Outside.state c.args.host.now in
    let mid = g.H.Outside.state c.loop.host in
    let new = g.H.Outside.state c.advance.new.host in
    let stops = stops_behind g.H.Outside.tells c.args.keeper.now.forest.meta c.loop.keeper.forest.meta old mid new _ before.disk_later before.port_later before.sizes before.becomes c.in_err-advance.ensures.stops in
    search rules

pub returns-then-not-branch-clause-stops : goal.returns-then-not-branch-clause-stops
returns-then-not-branch-clause-stops g c =
    let before = c.loop.invariant in
    let old = g.H.Outside.state c.args.host.now in
    let mid = g.H.Outside.state c.loop.host in
    let new = g.H.Outside.state c.advance.new.host in
    let stops = stops_behind g.H.Outside.tells c.args.keeper.now.forest.meta c.loop.keeper.forest.meta old mid new _ before.disk_later before.port_later before.sizes before.becomes c.in_ok-advance.ensures.stops in
    search rules

pub returns-then-not-branch-clause-becomes : goal.returns-then-not-branch-clause-becomes
returns-then-not-branch-clause-becomes g c told found was = c.in_ok-advance.ensures.becomes told found (c.loop.invariant.becomes told found was)
