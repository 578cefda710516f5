use Rattle.ak_host.specs.Moments.{mark_now}
use Rattle.ak_node.proofs.Advancing.{held_here, known_after, known_moment, known_leaves, known_wears}
use Rattle.ak_node.proofs.Staying.{by_moment}
use Rattle.ak_node.proofs.Stopping.{worn_handed}
use Rattle.ak_node.proofs.reading.advance.Goals as goal

pub returns-in_err-accept_known-clause-worn : goal.returns-in_err-accept_known-clause-worn
returns-in_err-accept_known-clause-worn g c told begun at =
    let host = g.H.Outside.state c.args.host.now in
    let is = c.in-Some.ensures in
    let here = held_here begun c.args.piece.now c.args.keeper.now c.args.session.now c.args.at.now (mark_now host) host at c.in-Some.known is in
    worn_handed (Unit {0}) c.from_residual.result c.in_err-accept_known.field-0.0 c.from_residual.ensures.1
    (known_wears begun c.args.piece.now c.args.keeper.now c.args.session.now c.args.at.now (mark_now host) host at c.in-Some.known is)
    (c.in_err-accept_known.ensures.worn told here is.name at.holds is.place)

pub returns-in_err-accept_known-clause-moments : goal.returns-in_err-accept_known-clause-moments
returns-in_err-accept_known-clause-moments g c told begun at =
    let host = g.H.Outside.state c.args.host.now in
    let is = c.in-Some.ensures in
    let here = held_here begun c.args.piece.now c.args.keeper.now c.args.session.now c.args.at.now (mark_now host) host at c.in-Some.known is in
    by_moment (c.accept_known.ensures.moments told here is.name c.args.session.now.port at.holds is.place)
    (known_moment begun c.args.piece.now c.args.keeper.now c.args.session.now c.args.at.now (mark_now host) host at c.in-Some.known is)
    (λ mark disk m left. known_leaves begun c.args.piece.now c.args.keeper.now c.args.session.now c.args.at.now (mark_now host) host at c.in-Some.known is mark disk left)

pub returns-in-Some-clause-more : goal.returns-in-Some-clause-more
returns-in-Some-clause-more g c told begun at _ =
    let host = g.H.Outside.state c.args.host.now in
    let is = c.in-Some.ensures in
    let here = held_here begun c.args.piece.now c.args.keeper.now c.args.session.now c.args.at.now (mark_now host) host at c.in-Some.known is in
    rw c.pass.ensures
    (known_after begun c.args.piece.now c.args.keeper.now c.args.session.now c.args.at.now (mark_now host) host at c.in-Some.known is
    c.accept_known.new.keeper (mark_now (g.H.Outside.state c.accept_known.new.host)) (g.H.Outside.state c.accept_known.new.host)
    (c.in_ok-accept_known.ensures.after told here is.name at.holds is.place) (c.in_ok-accept_known.ensures.told told here is.name c.args.session.now.port at.holds is.place))

pub returns-in-Some-clause-moments : goal.returns-in-Some-clause-moments
returns-in-Some-clause-moments g c told begun at =
    let host = g.H.Outside.state c.args.host.now in
    let is = c.in-Some.ensures in
    let here = held_here begun c.args.piece.now c.args.keeper.now c.args.session.now c.args.at.now (mark_now host) host at c.in-Some.known is in
    by_moment (c.accept_known.ensures.moments told here is.name c.args.session.now.port at.holds is.place)
    (known_moment begun c.args.piece.now c.args.keeper.now c.args.session.now c.args.at.now (mark_now host) host at c.in-Some.known is)
    (λ mark disk m left. known_leaves begun c.args.piece.now c.args.keeper.now c.args.session.now c.args.at.now (mark_now host) host at c.in-Some.known is mark disk left)
