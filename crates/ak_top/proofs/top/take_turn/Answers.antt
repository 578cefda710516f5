use Rattle.std.proofs.Common.{rules, subst}
use Rattle.ak_host.specs.Marks.{done}
use Rattle.ak_host.specs.Moments.{mark_now}
use Rattle.ak_host.proofs.Passing.{mark_holds}
use Rattle.ak_node.specs.Standing.{AfterTurn, InAct}
use Rattle.ak_node.specs.declared.node.Went.{Went}
use Rattle.ak_top.proofs.Stopping.{worn_handed}
use Rattle.ak_top.proofs.Taking.{whole_more, has_taken, act_starts, finish_passes, finish_wears, finish_after}
use Rattle.ak_node.proofs.Stopping.{stops_on}
use Rattle.ak_top.proofs.top.take_turn.Goals as goal

pub returns-in_err-finish-in-Done-clause-worn : goal.returns-in_err-finish-in-Done-clause-worn
returns-in_err-finish-in-Done-clause-worn g c told world stands =
    let old = g.H.Outside.state c.args.host.now in
    let mid = g.H.Outside.state c.turn.new.host in
    let new = g.H.Outside.state c.finish.new.host in
    let P : Went → Type 0 = λ w. AfterTurn world (mark_now old) (mark_now mid) c.turn.new.self mid w in
    let t = has_taken world (mark_now old) (mark_now mid) c.turn.new.self mid (subst P c.in-Done.is (c.in_ok-turn.ensures.after told world stands)) in
    let a = mark_holds {M = InAct world done (mark_now mid)} (c.finish.ensures.moments told world t.stands) (act_starts world done (mark_now mid)) in
    worn_handed (Unit {0}) c.from_residual-in_err-finish-in-Done.result c.in_err-finish-in-Done.field-0.0 c.from_residual-in_err-finish-in-Done.ensures.1
    (finish_wears world old mid new c.turn.new.self t a) (c.in_err-finish-in-Done.ensures.worn told world t.stands)

pub returns-in_err-finish-in-Done-clause-moments :
    goal.returns-in_err-finish-in-Done-clause-moments
returns-in_err-finish-in-Done-clause-moments g c told world stands =
    let old = g.H.Outside.state c.args.host.now in
    let mid = g.H.Outside.state c.turn.new.host in
    let new = g.H.Outside.state c.finish.new.host in
    let P : Went → Type 0 = λ w. AfterTurn world (mark_now old) (mark_now mid) c.turn.new.self mid w in
    let t = has_taken world (mark_now old) (mark_now mid) c.turn.new.self mid (subst P c.in-Done.is (c.in_ok-turn.ensures.after told world stands)) in
    finish_passes world old mid new c.turn.new.self t (c.turn.ensures.moments told world stands) (c.finish.ensures.moments told world t.stands)

pub returns-in-More-clause-after : goal.returns-in-More-clause-after
returns-in-More-clause-after g c told world stands =
    let old = g.H.Outside.state c.args.host.now in
    let new = g.H.Outside.state c.turn.new.host in
    let P : Went → Type 0 = λ w. AfterTurn world (mark_now old) (mark_now new) c.turn.new.self new w in
    whole_more world (mark_now old) (mark_now new) c.turn.new.self new (subst P c.in-More.is (c.in_ok-turn.ensures.after told world stands))

pub returns-in_ok-finish-in-Done-clause-after : goal.returns-in_ok-finish-in-Done-clause-after
returns-in_ok-finish-in-Done-clause-after g c told world stands =
    let old = g.H.Outside.state c.args.host.now in
    let mid = g.H.Outside.state c.turn.new.host in
    let new = g.H.Outside.state c.finish.new.host in
    let P : Went → Type 0 = λ w. AfterTurn world (mark_now old) (mark_now mid) c.turn.new.self mid w in
    let t = has_taken world (mark_now old) (mark_now mid) c.turn.new.self mid (subst P c.in-Done.is (c.in_ok-turn.ensures.after told world stands)) in
    finish_after world old mid new c.turn.new.self t c.finish.new.self (c.in_ok-finish-in-Done.ensures.after told world t.stands)

pub returns-in_ok-finish-in-Done-clause-moments : goal.returns-in_ok-finish-in-Done-clause-moments
returns-in_ok-finish-in-Done-clause-moments g c told world stands =
    let old = g.H.Outside.state c.args.host.now in
    let mid = g.H.Outside.state c.turn.new.host in
    let new = g.H.Outside.state c.finish.new.host in
    let P : Went → Type 0 = λ w. AfterTurn world (mark_now old) (mark_now mid) c.turn.new.self mid w in
    let t = has_taken world (mark_now old) (mark_now mid) c.turn.new.self mid (subst P c.in-Done.is (c.in_ok-turn.ensures.after told world stands)) in
    finish_passes world old mid new c.turn.new.self t (c.turn.ensures.moments told world stands) (c.finish.ensures.moments told world t.stands)

pub returns-in_err-finish-in-Done-clause-stops : goal.returns-in_err-finish-in-Done-clause-stops
returns-in_err-finish-in-Done-clause-stops g c =
    let stops = stops_on _ _ _ _ _ _ _ _ (c.in_ok-turn.ensures.stops c.requires.free) c.in_ok-turn.ensures.becomes (c.in_err-finish-in-Done.ensures.stops c.in_ok-turn.ensures.fresh) in
    search rules

pub returns-in_ok-finish-in-Done-clause-stops : goal.returns-in_ok-finish-in-Done-clause-stops
returns-in_ok-finish-in-Done-clause-stops g c =
    let stops = stops_on _ _ _ _ _ _ _ _ (c.in_ok-turn.ensures.stops c.requires.free) c.in_ok-turn.ensures.becomes (c.in_ok-finish-in-Done.ensures.stops c.in_ok-turn.ensures.fresh) in
    search rules

pub returns-in_ok-finish-in-Done-clause-becomes : goal.returns-in_ok-finish-in-Done-clause-becomes
returns-in_ok-finish-in-Done-clause-becomes g c told found was = c.in_ok-finish-in-Done.ensures.becomes told found (c.in_ok-turn.ensures.becomes told found was)
