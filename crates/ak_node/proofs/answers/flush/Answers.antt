use Rattle.ak_host.specs.Moments.{mark_now}
use Rattle.ak_host.proofs.Passing.{ports_leave}
use Rattle.ak_run.specs.declared.asked.Asked.TheVariants.{Flush}
use Rattle.ak_run.specs.Replies.{ok_reply}
use Rattle.ak_world.specs.Steps.{flushed}
use Rattle.ak_node.proofs.Answering.{holds_asked, disk_part, told_asked, reply_part, flush_bytes}
use Rattle.ak_node.proofs.Staying.{holds_after_ports, ready_after_ports, ok_is}
use Rattle.ak_node.proofs.Stopping.{stops_on}
use Rattle.ak_tree.proofs.Becoming.{origins_same}
use Rattle.std.proofs.lemmas.Result.{on_ok_weaker}
use Rattle.ak_node.proofs.answers.flush.Goals as goal

pub returns-in_err-flush-clause-moments : goal.returns-in_err-flush-clause-moments
returns-in_err-flush-clause-moments g c told content holds = disk_part c.args.port content Flush holds.keeps.not_worn (c.flush.ensures.moments told content holds)

pub returns-clause-stops : goal.returns-clause-stops
returns-clause-stops g c = stops_on _ _ c.flush.new.self.forest.meta _ _ _ c.flush.result c.tell.result c.flush.ensures.stops c.in_ok-flush.ensures.becomes (c.tell.ensures.stops c.flush.new.self.forest.meta)

pub returns-clause-ready : goal.returns-clause-ready
returns-clause-ready g c =
    ok_is c.tell.result (ready_after_ports g.H.Outside.tells c.flush.new.self (g.H.Outside.state c.flush.new.disk) (g.H.Outside.state c.tell.new.host) c.in_ok-flush.ensures.ready (c.tell.ensures.stops c.flush.new.self.forest.meta).sizes c.tell.ensures.files
    (λ told. ports_leave (c.tell.ensures.moments told)))

pub returns-clause-after : goal.returns-clause-after
returns-clause-after g c told content holds =
    ok_is c.tell.result (holds_asked c.args.port content Flush holds.keeps.not_worn c.flush.new.self (g.H.Outside.state c.tell.new.host)
    (holds_after_ports (flushed content) c.flush.new.self (g.H.Outside.state c.flush.new.disk) (g.H.Outside.state c.tell.new.host) (c.in_ok-flush.ensures.after told content holds) (c.tell.ensures.files told) (c.tell.ensures.moments told)))

pub returns-clause-told : goal.returns-clause-told
returns-clause-told g c told content holds =
    let next = c.in_ok-flush.ensures.after told content holds in
    on_ok_weaker c.tell.result
    (told_asked c.args.port content Flush holds.keeps.not_worn (c.flush.ensures.moments told content holds) ok_reply (flush_bytes c.args.port content holds.keeps.not_worn next.keeps.not_worn) (mark_now (g.H.Outside.state c.tell.new.host)))
    (c.tell.ensures.told told)

pub returns-clause-moments : goal.returns-clause-moments
returns-clause-moments g c told content holds =
    let next = c.in_ok-flush.ensures.after told content holds in
    reply_part c.args.port content Flush holds.keeps.not_worn (c.flush.ensures.moments told content holds) ok_reply (flush_bytes c.args.port content holds.keeps.not_worn next.keeps.not_worn) c.flush.new.self next (c.tell.ensures.moments told)

pub returns-clause-becomes : goal.returns-clause-becomes
returns-clause-becomes g c told =
    let answered = origins_same (g.H.Outside.state c.flush.new.disk) (g.H.Outside.state c.tell.new.host) c.flush.new.self.forest.meta (c.tell.ensures.files told) in
    ok_is c.tell.result (λ found was. answered found (c.in_ok-flush.ensures.becomes told found was))
