use Rattle.std.proofs.Common.{Some, None, sym, ◌∙◌}
use Rattle.std.proofs.lemmas.Result.{on_ok_weaker}
use Rattle.ak_host.specs.Moments.{mark_now}
use Rattle.ak_host.proofs.Passing.{ports_leave}
use Rattle.ak_run.specs.declared.asked.Asked.TheVariants.{Points}
use Rattle.ak_run.specs.Replies.{refusal_reply}
use Rattle.ak_world.specs.Puts.{after_points}
use Rattle.ak_node.proofs.Answering.{holds_asked, told_asked, told_none, reply_part, points_bytes}
use Rattle.ak_node.proofs.Staying.{holds_after_ports, ready_after_ports, ok_is}
use Rattle.ak_node.proofs.Stopping.{stops_on}
use Rattle.ak_tree.proofs.Becoming.{origins_same}
use Rattle.ak_node.proofs.answers.points.Goals as goal

pub returns-in-Some-clause-stops : goal.returns-in-Some-clause-stops
returns-in-Some-clause-stops g c = stops_on _ _ c.put.new.keeper.forest.meta _ _ _ c.put.result c.refuse.result c.put.ensures.stops c.in_ok-refusal.ensures.becomes (c.refuse.ensures.stops c.put.new.keeper.forest.meta)

pub returns-in-Some-clause-ready : goal.returns-in-Some-clause-ready
returns-in-Some-clause-ready g c =
    ok_is c.refuse.result (ready_after_ports g.H.Outside.tells c.put.new.keeper (g.H.Outside.state c.put.new.disk) (g.H.Outside.state c.refuse.new.host) c.in_ok-refusal.ensures.ready (c.refuse.ensures.stops c.put.new.keeper.forest.meta).sizes c.refuse.ensures.files
    (λ told. ports_leave (c.refuse.ensures.moments told)))

pub returns-in-Some-clause-after : goal.returns-in-Some-clause-after
returns-in-Some-clause-after g c told content holds =
    ok_is c.refuse.result (holds_asked c.args.port content (Points c.args.names.now c.args.time c.args.values.now) holds.keeps.not_worn c.put.new.keeper (g.H.Outside.state c.refuse.new.host)
    (holds_after_ports (after_points content c.args.names.now c.args.time c.args.values.now) c.put.new.keeper (g.H.Outside.state c.put.new.disk) (g.H.Outside.state c.refuse.new.host)
    (c.in_ok-refusal.ensures.after told content holds) (c.refuse.ensures.files told) (c.refuse.ensures.moments told)))

pub returns-in-Some-clause-told : goal.returns-in-Some-clause-told
returns-in-Some-clause-told g c told content holds =
    on_ok_weaker c.refuse.result
    (told_asked c.args.port content (Points c.args.names.now c.args.time c.args.values.now) holds.keeps.not_worn (c.put.ensures.moments told content holds) (refusal_reply c.in-Some.refusal)
    (points_bytes c.args.port content c.args.names.now c.args.time c.args.values.now (Some c.in-Some.refusal) holds.keeps.not_worn (sym c.in-Some.is ∙ c.in_ok-refusal.ensures.refusal content holds.keeps))
    (mark_now (g.H.Outside.state c.refuse.new.host)))
    (c.refuse.ensures.told told)

pub returns-in-Some-clause-moments : goal.returns-in-Some-clause-moments
returns-in-Some-clause-moments g c told content holds =
    reply_part c.args.port content (Points c.args.names.now c.args.time c.args.values.now) holds.keeps.not_worn (c.put.ensures.moments told content holds) (refusal_reply c.in-Some.refusal)
    (points_bytes c.args.port content c.args.names.now c.args.time c.args.values.now (Some c.in-Some.refusal) holds.keeps.not_worn (sym c.in-Some.is ∙ c.in_ok-refusal.ensures.refusal content holds.keeps))
    c.put.new.keeper (c.in_ok-refusal.ensures.after told content holds) (c.refuse.ensures.moments told)

pub returns-in-None-clause-told : goal.returns-in-None-clause-told
returns-in-None-clause-told g c told content holds =
    told_none c.args.port content (Points c.args.names.now c.args.time c.args.values.now) (c.put.ensures.moments told content holds)
    (points_bytes c.args.port content c.args.names.now c.args.time c.args.values.now None holds.keeps.not_worn (sym c.in-None.is ∙ c.in_ok-refusal.ensures.refusal content holds.keeps))

pub returns-in-Some-clause-becomes : goal.returns-in-Some-clause-becomes
returns-in-Some-clause-becomes g c told =
    let answered = origins_same (g.H.Outside.state c.put.new.disk) (g.H.Outside.state c.refuse.new.host) c.put.new.keeper.forest.meta (c.refuse.ensures.files told) in
    ok_is c.refuse.result (λ found was. answered found (c.in_ok-refusal.ensures.becomes told found was))
