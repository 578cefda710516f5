use Rattle.std.proofs.Common.{rules}
use Rattle.ak_host.specs.Moments.{mark_now}
use Rattle.ak_host.proofs.Passing.{ports_leave}
use Rattle.ak_node.proofs.Staying.{by_moment, holds_after_ports, ready_after_ports}
use Rattle.ak_node.proofs.Steps.{held, asked_of, asks_held, after_message, after_none, after_kept, after_fault, message_moment, message_leaves, message_wears, message_asks, fault_moment, fault_leaves}
use Rattle.ak_node.proofs.Stopping.{worn_handed}
use Rattle.ak_tree.proofs.Becoming.{origins_same}
use Rattle.ak_node.proofs.reading.read_on.Goals as goal

pub returns-in_err-act-in-Ok-Some-clause-worn : goal.returns-in_err-act-in-Ok-Some-clause-worn
returns-in_err-act-in-Ok-Some-clause-worn g c told begun at =
    let host = g.H.Outside.state c.args.host.now in
    let before = mark_now host in
    let asks = asks_held begun c.args.piece.now c.args.keeper.now c.args.session.now c.args.at.now c.feed.new.at before host at c.feed.new.self c.in-Ok-Some.message in
    let here = held begun c.args.piece.now c.args.keeper.now c.args.session.now c.args.at.now c.feed.new.at before host at c.feed.new.self in
    let asked = asked_of begun c.in-Ok-Some.message in
    let worn = c.in_err-act-in-Ok-Some.ensures.worn told here asked at.holds asks in
    worn_handed (Unit {0}) c.from_residual.result c.in_err-act-in-Ok-Some.field-0.0 c.from_residual.ensures.1 (message_wears begun c.args.piece.now c.args.keeper.now c.args.session.now c.args.at.now c.feed.new.at before host at c.feed.new.self c.in-Ok-Some.message c.in-Ok-Some.field-0 c.in-Ok-Some.field-0-is c.in-Ok-Some.ensures.stands) worn

pub returns-in_err-act-in-Ok-Some-clause-reads : goal.returns-in_err-act-in-Ok-Some-clause-reads
returns-in_err-act-in-Ok-Some-clause-reads g c told begun at none =
    let host = g.H.Outside.state c.args.host.now in
    let before = mark_now host in
    c.act.ensures.reads told (message_asks begun c.args.piece.now c.args.keeper.now c.args.session.now c.args.at.now c.feed.new.at before host at c.feed.new.self c.in-Ok-Some.message c.in-Ok-Some.field-0 c.in-Ok-Some.field-0-is c.in-Ok-Some.ensures.stands none)

pub returns-in_ok-act-in-Ok-Some-clause-reads : goal.returns-in_ok-act-in-Ok-Some-clause-reads
returns-in_ok-act-in-Ok-Some-clause-reads g c told begun at none =
    let host = g.H.Outside.state c.args.host.now in
    let before = mark_now host in
    c.act.ensures.reads told (message_asks begun c.args.piece.now c.args.keeper.now c.args.session.now c.args.at.now c.feed.new.at before host at c.feed.new.self c.in-Ok-Some.message c.in-Ok-Some.field-0 c.in-Ok-Some.field-0-is c.in-Ok-Some.ensures.stands none)

pub returns-in_err-act-in-Ok-Some-clause-moments : goal.returns-in_err-act-in-Ok-Some-clause-moments
returns-in_err-act-in-Ok-Some-clause-moments g c told begun at =
    let host = g.H.Outside.state c.args.host.now in
    let before = mark_now host in
    let asks = asks_held begun c.args.piece.now c.args.keeper.now c.args.session.now c.args.at.now c.feed.new.at before host at c.feed.new.self c.in-Ok-Some.message in
    let here = held begun c.args.piece.now c.args.keeper.now c.args.session.now c.args.at.now c.feed.new.at before host at c.feed.new.self in
    let asked = asked_of begun c.in-Ok-Some.message in
    by_moment (c.act.ensures.moments told here asked at.holds asks)
    (message_moment begun c.args.piece.now c.args.keeper.now c.args.session.now c.args.at.now c.feed.new.at before host at c.feed.new.self c.in-Ok-Some.message c.in-Ok-Some.field-0 c.in-Ok-Some.field-0-is c.in-Ok-Some.ensures.stands c.in-Ok-Some.ensures.kept c.in-Ok-Some.ensures.fault)
    (λ mark disk m left. message_leaves begun c.args.piece.now c.args.keeper.now c.args.session.now c.args.at.now c.feed.new.at before host at c.feed.new.self c.in-Ok-Some.message c.in-Ok-Some.field-0 c.in-Ok-Some.field-0-is c.in-Ok-Some.ensures.stands c.in-Ok-Some.ensures.kept c.in-Ok-Some.ensures.fault mark disk left)

pub returns-in_ok-act-in-Ok-Some-clause-moments : goal.returns-in_ok-act-in-Ok-Some-clause-moments
returns-in_ok-act-in-Ok-Some-clause-moments g c told begun at =
    let host = g.H.Outside.state c.args.host.now in
    let before = mark_now host in
    let asks = asks_held begun c.args.piece.now c.args.keeper.now c.args.session.now c.args.at.now c.feed.new.at before host at c.feed.new.self c.in-Ok-Some.message in
    let here = held begun c.args.piece.now c.args.keeper.now c.args.session.now c.args.at.now c.feed.new.at before host at c.feed.new.self in
    let asked = asked_of begun c.in-Ok-Some.message in
    by_moment (c.act.ensures.moments told here asked at.holds asks)
    (message_moment begun c.args.piece.now c.args.keeper.now c.args.session.now c.args.at.now c.feed.new.at before host at c.feed.new.self c.in-Ok-Some.message c.in-Ok-Some.field-0 c.in-Ok-Some.field-0-is c.in-Ok-Some.ensures.stands c.in-Ok-Some.ensures.kept c.in-Ok-Some.ensures.fault)
    (λ mark disk m left. message_leaves begun c.args.piece.now c.args.keeper.now c.args.session.now c.args.at.now c.feed.new.at before host at c.feed.new.self c.in-Ok-Some.message c.in-Ok-Some.field-0 c.in-Ok-Some.field-0-is c.in-Ok-Some.ensures.stands c.in-Ok-Some.ensures.kept c.in-Ok-Some.ensures.fault mark disk left)

pub returns-in_ok-act-in-Ok-Some-clause-more : goal.returns-in_ok-act-in-Ok-Some-clause-more
returns-in_ok-act-in-Ok-Some-clause-more g c told begun at _ =
    let host = g.H.Outside.state c.args.host.now in
    let before = mark_now host in
    let asks = asks_held begun c.args.piece.now c.args.keeper.now c.args.session.now c.args.at.now c.feed.new.at before host at c.feed.new.self c.in-Ok-Some.message in
    let here = held begun c.args.piece.now c.args.keeper.now c.args.session.now c.args.at.now c.feed.new.at before host at c.feed.new.self in
    let asked = asked_of begun c.in-Ok-Some.message in
    rw c.keep_put.ensures
    (after_message begun c.args.piece.now c.args.keeper.now c.args.session.now c.args.at.now c.feed.new.at before host at c.feed.new.self c.in-Ok-Some.message c.in-Ok-Some.field-0 c.in-Ok-Some.field-0-is c.in-Ok-Some.ensures.stands c.in-Ok-Some.ensures.kept c.in-Ok-Some.ensures.fault c.act.new.keeper (mark_now (g.H.Outside.state c.act.new.host)) (g.H.Outside.state c.act.new.host)
    (c.in_ok-act-in-Ok-Some.ensures.after told here asked at.holds asks) (c.in_ok-act-in-Ok-Some.ensures.told told here asked at.holds asks))

pub returns-in-Ok-None-clause-last : goal.returns-in-Ok-None-clause-last
returns-in-Ok-None-clause-last g c told begun at _ =
    let host = g.H.Outside.state c.args.host.now in
    let before = mark_now host in
    after_none begun c.args.piece.now c.args.keeper.now c.args.session.now c.args.at.now c.feed.new.at before host at c.feed.new.self c.in-Ok-None.field-0 c.in-Ok-None.field-0-is c.in-Ok-None.ensures.stands c.in-Ok-None.ensures.kept c.in-Ok-None.ensures.fault c.in-Ok-None.ensures.none

pub returns-then-session-clause-last : goal.returns-then-session-clause-last
returns-then-session-clause-last g c told begun at _ =
    let host = g.H.Outside.state c.args.host.now in
    let before = mark_now host in
    after_kept begun c.args.piece.now c.args.keeper.now c.args.session.now c.args.at.now c.feed.new.at before host at c.feed.new.self c.in-Err-Refused.field-0 c.in-Err-Refused.ensures.kept c.if-session.true

pub returns-in_err-refuse-in-Err-Refused-clause-stops : goal.returns-in_err-refuse-in-Err-Refused-clause-stops
returns-in_err-refuse-in-Err-Refused-clause-stops g c = let stops = c.in_err-refuse-in-Err-Refused.ensures.stops c.args.keeper.now.forest.meta in search rules

pub returns-in_ok-refuse-in-Err-Refused-clause-stops : goal.returns-in_ok-refuse-in-Err-Refused-clause-stops
returns-in_ok-refuse-in-Err-Refused-clause-stops g c = let stops = c.in_ok-refuse-in-Err-Refused.ensures.stops c.args.keeper.now.forest.meta in search rules

pub returns-in_ok-refuse-in-Err-Refused-clause-ready : goal.returns-in_ok-refuse-in-Err-Refused-clause-ready
returns-in_ok-refuse-in-Err-Refused-clause-ready g c =
    ready_after_ports g.H.Outside.tells c.args.keeper.now (g.H.Outside.state c.args.host.now) (g.H.Outside.state c.refuse.new.host) c.requires.ready (c.refuse.ensures.stops c.args.keeper.now.forest.meta).sizes
    c.refuse.ensures.files (λ told. ports_leave (c.refuse.ensures.moments told))

pub returns-in_err-refuse-in-Err-Refused-clause-moments : goal.returns-in_err-refuse-in-Err-Refused-clause-moments
returns-in_err-refuse-in-Err-Refused-clause-moments g c told begun at =
    let host = g.H.Outside.state c.args.host.now in
    let before = mark_now host in
    by_moment (c.refuse.ensures.moments told)
    (fault_moment begun c.args.piece.now c.args.keeper.now c.args.session.now c.args.at.now c.feed.new.at before host at c.feed.new.self c.in-Err-Refused.refusal c.in-Err-Refused.field-0 c.in-Err-Refused.field-0-is c.in-Err-Refused.ensures.stands c.in-Err-Refused.ensures.fault c.if-session.false)
    (fault_leaves begun c.args.piece.now c.args.keeper.now c.args.session.now c.args.at.now c.feed.new.at before host at c.feed.new.self c.in-Err-Refused.refusal c.in-Err-Refused.field-0 c.in-Err-Refused.field-0-is c.in-Err-Refused.ensures.stands c.in-Err-Refused.ensures.fault c.if-session.false)

pub returns-in_ok-refuse-in-Err-Refused-clause-moments : goal.returns-in_ok-refuse-in-Err-Refused-clause-moments
returns-in_ok-refuse-in-Err-Refused-clause-moments g c told begun at =
    let host = g.H.Outside.state c.args.host.now in
    let before = mark_now host in
    by_moment (c.refuse.ensures.moments told)
    (fault_moment begun c.args.piece.now c.args.keeper.now c.args.session.now c.args.at.now c.feed.new.at before host at c.feed.new.self c.in-Err-Refused.refusal c.in-Err-Refused.field-0 c.in-Err-Refused.field-0-is c.in-Err-Refused.ensures.stands c.in-Err-Refused.ensures.fault c.if-session.false)
    (fault_leaves begun c.args.piece.now c.args.keeper.now c.args.session.now c.args.at.now c.feed.new.at before host at c.feed.new.self c.in-Err-Refused.refusal c.in-Err-Refused.field-0 c.in-Err-Refused.field-0-is c.in-Err-Refused.ensures.stands c.in-Err-Refused.ensures.fault c.if-session.false)

pub returns-in_ok-refuse-in-Err-Refused-clause-last : goal.returns-in_ok-refuse-in-Err-Refused-clause-last
returns-in_ok-refuse-in-Err-Refused-clause-last g c told begun at _ =
    let host = g.H.Outside.state c.args.host.now in
    let before = mark_now host in
    after_fault begun c.args.piece.now c.args.keeper.now c.args.session.now c.args.at.now c.feed.new.at before host at c.feed.new.self c.in-Err-Refused.refusal c.in-Err-Refused.field-0 c.in-Err-Refused.field-0-is c.in-Err-Refused.ensures.stands c.in-Err-Refused.ensures.fault c.if-session.false (mark_now (g.H.Outside.state c.refuse.new.host)) (g.H.Outside.state c.refuse.new.host) (c.in_ok-refuse-in-Err-Refused.ensures.told told)
    (holds_after_ports (held begun c.args.piece.now c.args.keeper.now c.args.session.now c.args.at.now c.feed.new.at before host at c.feed.new.self) c.args.keeper.now host (g.H.Outside.state c.refuse.new.host) at.holds (c.refuse.ensures.files told) (c.refuse.ensures.moments told))

pub returns-in-Ok-None-clause-becomes : goal.returns-in-Ok-None-clause-becomes
returns-in-Ok-None-clause-becomes g c told found was = was

pub returns-then-session-clause-becomes : goal.returns-then-session-clause-becomes
returns-then-session-clause-becomes g c told found was = was

pub returns-in_ok-refuse-in-Err-Refused-clause-becomes : goal.returns-in_ok-refuse-in-Err-Refused-clause-becomes
returns-in_ok-refuse-in-Err-Refused-clause-becomes g c told = origins_same (g.H.Outside.state c.args.host.now) (g.H.Outside.state c.refuse.new.host) c.args.keeper.now.forest.meta (c.refuse.ensures.files told)

pub returns-in_ok-act-in-Ok-Some-clause-becomes : goal.returns-in_ok-act-in-Ok-Some-clause-becomes
returns-in_ok-act-in-Ok-Some-clause-becomes g c told = rw c.keep_put.ensures (c.in_ok-act-in-Ok-Some.ensures.becomes told)
