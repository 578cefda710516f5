use Rattle.std.proofs.Common.{sym, subst}
use Rattle.ak_host.specs.Moments.{Passes, mark_now}
use Rattle.ak_host.proofs.Passing.{ports_leave, disk_starts}
use Rattle.ak_run.specs.declared.asked.Asked.{Asked}
use Rattle.ak_run.specs.declared.asked.Asked.TheVariants.{Refused}
use Rattle.ak_run.specs.Contents.{after}
use Rattle.ak_run.specs.Replies.{refusal_reply}
use Rattle.ak_tree.specs.Storing.{LeavesView}
use Rattle.ak_node.specs.Pieces.{InAnswer, LeavesInAnswer}
use Rattle.ak_node.specs.Standing.{Holds}
use Rattle.ak_node.proofs.Answering.{holds_asked, reply_part, refused_bytes}
use Rattle.ak_node.proofs.Staying.{holds_after_ports, ready_after_ports, ok_is}
use Rattle.ak_tree.proofs.Becoming.{origins_same}
use Rattle.ak_node.proofs.answers.answer.Goals as goal

pub returns-in-Refused-clause-stops : goal.returns-in-Refused-clause-stops
returns-in-Refused-clause-stops g c = c.refuse.ensures.stops _

pub returns-in-Refused-clause-ready : goal.returns-in-Refused-clause-ready
returns-in-Refused-clause-ready g c =
    ok_is c.refuse.result (ready_after_ports g.H.Outside.tells c.args.keeper.now (g.H.Outside.state c.args.host.now) (g.H.Outside.state c.refuse.new.host) c.requires.ready
    (c.refuse.ensures.stops c.args.keeper.now.forest.meta).sizes c.refuse.ensures.files (λ told. ports_leave (c.refuse.ensures.moments told)))

pub returns-in-Refused-clause-after : goal.returns-in-Refused-clause-after
returns-in-Refused-clause-after g c told content holds =
    ok_is c.refuse.result (subst (λ (a : Asked). Holds (after content a) c.args.keeper.now (g.H.Outside.state c.refuse.new.host)) (sym c.in-Refused.is)
    (holds_asked c.args.port content (Refused c.in-Refused.refusal) holds.keeps.not_worn c.args.keeper.now (g.H.Outside.state c.refuse.new.host)
    (holds_after_ports content c.args.keeper.now (g.H.Outside.state c.args.host.now) (g.H.Outside.state c.refuse.new.host) holds (c.refuse.ensures.files told) (c.refuse.ensures.moments told))))

pub returns-in-Refused-clause-moments : goal.returns-in-Refused-clause-moments
returns-in-Refused-clause-moments g c told content holds =
    let old = g.H.Outside.state c.args.host.now in
    subst (λ (a : Asked). Passes (InAnswer c.args.port content a (mark_now old)) (LeavesInAnswer c.args.port content a (mark_now old)) old (g.H.Outside.state c.refuse.new.host)) (sym c.in-Refused.is)
    (reply_part c.args.port content (Refused c.in-Refused.refusal) holds.keeps.not_worn (disk_starts (LeavesView content content) old) (refusal_reply c.in-Refused.refusal)
    (refused_bytes c.args.port content c.in-Refused.refusal holds.keeps.not_worn) c.args.keeper.now holds (c.refuse.ensures.moments told))

pub returns-in-Refused-clause-becomes : goal.returns-in-Refused-clause-becomes
returns-in-Refused-clause-becomes g c told = ok_is c.refuse.result (origins_same (g.H.Outside.state c.args.host.now) (g.H.Outside.state c.refuse.new.host) c.args.keeper.now.forest.meta (c.refuse.ensures.files told))
