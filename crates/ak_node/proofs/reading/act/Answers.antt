use Rattle.std.proofs.Common.{ℕ, OnOk, subst}
use Rattle.ak_host.specs.Moments.{Passes, mark_now}
use Rattle.ak_run.specs.declared.asked.Asked.{Asked}
use Rattle.ak_run.specs.Asking.{Asks}
use Rattle.ak_run.specs.Contents.{after}
use Rattle.ak_run.specs.Replies.{reply_to}
use Rattle.ak_tree.specs.Stops.{OnWorn, IsWornBy}
use Rattle.ak_node.specs.Calls.{Told}
use Rattle.ak_node.specs.Pieces.{InAnswer, LeavesInAnswer}
use Rattle.ak_node.specs.Standing.{Holds}
use Rattle.ak_node.proofs.Querying.{no_query_asks}
use Rattle.ak_node.proofs.Steps.{asked_same}
use Rattle.ak_node.proofs.reading.act.Goals as goal

pub returns-in-Ok-clause-reads : goal.returns-in-Ok-clause-reads
returns-in-Ok-clause-reads g c told none = c.answer.ensures.reads told (no_query_asks c.args.keeper.now.forest.meta.limits.scale c.args.message.now c.in-Ok.asked (subst (λ (n : ℕ). Asks n c.args.message.now c.in-Ok.asked) c.scale.ensures.is c.in-Ok.ensures.asks) none)

pub returns-in-Ok-clause-worn : goal.returns-in-Ok-clause-worn
returns-in-Ok-clause-worn g c told content asked holds asks =
    let same = asked_same content c.args.keeper.now (g.H.Outside.state c.args.host.now) c.args.message.now c.in-Ok.asked asked holds (subst (λ (n : ℕ). Asks n c.args.message.now c.in-Ok.asked) c.scale.ensures.is c.in-Ok.ensures.asks) asks in
    subst (λ (a : Asked). OnWorn c.answer.result (IsWornBy (after content a))) same (c.answer.ensures.worn told content holds)

pub returns-in-Ok-clause-after : goal.returns-in-Ok-clause-after
returns-in-Ok-clause-after g c told content asked holds asks =
    let same = asked_same content c.args.keeper.now (g.H.Outside.state c.args.host.now) c.args.message.now c.in-Ok.asked asked holds (subst (λ (n : ℕ). Asks n c.args.message.now c.in-Ok.asked) c.scale.ensures.is c.in-Ok.ensures.asks) asks in
    subst (λ (a : Asked). OnOk c.answer.result (Holds (after content a) c.answer.new.keeper (g.H.Outside.state c.answer.new.host))) same (c.answer.ensures.after told content holds)

pub returns-in-Ok-clause-told : goal.returns-in-Ok-clause-told
returns-in-Ok-clause-told g c told content asked holds asks =
    let same = asked_same content c.args.keeper.now (g.H.Outside.state c.args.host.now) c.args.message.now c.in-Ok.asked asked holds (subst (λ (n : ℕ). Asks n c.args.message.now c.in-Ok.asked) c.scale.ensures.is c.in-Ok.ensures.asks) asks in
    let start = mark_now (g.H.Outside.state c.args.host.now) in
    subst (λ (a : Asked). OnOk c.answer.result (Told start (mark_now (g.H.Outside.state c.answer.new.host)) c.args.port (reply_to c.args.port content a).bytes)) same (c.answer.ensures.told told content holds)

pub returns-in-Ok-clause-moments : goal.returns-in-Ok-clause-moments
returns-in-Ok-clause-moments g c told content asked holds asks =
    let same = asked_same content c.args.keeper.now (g.H.Outside.state c.args.host.now) c.args.message.now c.in-Ok.asked asked holds (subst (λ (n : ℕ). Asks n c.args.message.now c.in-Ok.asked) c.scale.ensures.is c.in-Ok.ensures.asks) asks in
    let start = mark_now (g.H.Outside.state c.args.host.now) in
    subst (λ (a : Asked). Passes (InAnswer c.args.port content a start) (LeavesInAnswer c.args.port content a start) (g.H.Outside.state c.args.host.now) (g.H.Outside.state c.answer.new.host)) same
    (c.answer.ensures.moments told content holds)
