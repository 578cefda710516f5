use Rattle.std.proofs.Common.{rules, sym, subst, ◌≡◌, List, []}
use Rattle.std.proofs.lemmas.Result.{on_ok_weaker}
use Rattle.ak_host.specs.Marks.{Mark}
use Rattle.ak_host.specs.Moments.{mark_now}
use Rattle.ak_host.proofs.Passing.{same_mark, goes_on}
use Rattle.ak_tree.proofs.Becoming.{origins_same}
use Rattle.ak_tree.proofs.Telling.{worn_weaker}
use Rattle.ak_world.proofs.Going.{flush_goes}
use Rattle.ak_world.specs.Steps.{flushed}
use Rattle.ak_node.specs.declared.session.Session.{Session}
use Rattle.ak_node.specs.Standing.{AreSessions, InEnds, AfterEnds}
use Rattle.ak_node.proofs.Staying.{by_moment, holds_after_ports, ready_after_ports, left_last, last_left}
use Rattle.ak_node.proofs.Stopping.{stops_on}
use Rattle.ak_node.proofs.Turns.{done_in_act, done_leaves_act, done_after_act, done_wears, ends_told}
use Rattle.ak_node.proofs.node.Node.finish_all.Goals as goal

pub returns-in_err-tell_ends-clause-stops : goal.returns-in_err-tell_ends-clause-stops
returns-in_err-tell_ends-clause-stops g c = let stops = c.in_err-tell_ends.ensures.stops c.args.self.now.keeper.forest.meta in search rules

pub returns-in_err-tell_ends-clause-moments : goal.returns-in_err-tell_ends-clause-moments
returns-in_err-tell_ends-clause-moments g c told world stands =
    let old = g.H.Outside.state c.args.host.now in
    let start = mark_now old in
    let are = subst (λ (l : List Session). AreSessions l world.sessions) (sym c.as_slice.ensures.value) stands.sessions in
    by_moment (c.tell_ends.ensures.moments told world.sessions are) (done_in_act world stands.holds.keeps.not_worn start)
    (λ mark disk e left. done_leaves_act world stands.holds.keeps.not_worn start mark disk e
    (last_left world.content (flushed world.content) disk (flush_goes world.content) (left_last world.content c.args.self.now.keeper old stands.holds disk left)))

pub flush-requires : goal.flush-requires
flush-requires g c =
    record { ready = ready_after_ports g.H.Outside.tells c.args.self.now.keeper (g.H.Outside.state c.args.host.now) (g.H.Outside.state c.tell_ends.new.host) c.requires.ready.ready (c.tell_ends.ensures.stops c.args.self.now.keeper.forest.meta).sizes c.tell_ends.ensures.files c.tell_ends.ensures.leaves }

pub returns-clause-stops : goal.returns-clause-stops
returns-clause-stops g c =
    let meta = c.args.self.now.keeper.forest.meta in
    stops_on _ _ meta _ _ _ _ c.flush.result (c.in_ok-tell_ends.ensures.stops meta) (λ told. origins_same (g.H.Outside.state c.args.host.now) (g.H.Outside.state c.tell_ends.new.host) meta (c.tell_ends.ensures.files told)) c.flush.ensures.stops

pub returns-clause-becomes : goal.returns-clause-becomes
returns-clause-becomes g c told =
    let meta = c.args.self.now.keeper.forest.meta in
    let ended = origins_same (g.H.Outside.state c.args.host.now) (g.H.Outside.state c.tell_ends.new.host) meta (c.tell_ends.ensures.files told) in
    on_ok_weaker c.flush.result (λ flushed found was. flushed found (ended found was)) (c.flush.ensures.becomes told)

pub returns-clause-worn : goal.returns-clause-worn
returns-clause-worn g c told world stands =
    let old = g.H.Outside.state c.args.host.now in
    let mid = g.H.Outside.state c.tell_ends.new.host in
    let are = subst (λ (l : List Session). AreSessions l world.sessions) (sym c.as_slice.ensures.value) stands.sessions in
    let e = c.in_ok-tell_ends.ensures.after told world.sessions are in
    let held = holds_after_ports world.content c.args.self.now.keeper old mid stands.holds (c.tell_ends.ensures.files told) (c.tell_ends.ensures.moments told world.sessions are) in
    worn_weaker c.flush.result (λ stop worn. done_wears world stands.holds.keeps.not_worn e.replies stop e.ends worn) (c.flush.ensures.worn told world.content held)

pub returns-clause-after : goal.returns-clause-after
returns-clause-after g c told world stands =
    let old = g.H.Outside.state c.args.host.now in
    let mid = g.H.Outside.state c.tell_ends.new.host in
    let new = g.H.Outside.state c.flush.new.disk in
    let are = subst (λ (l : List Session). AreSessions l world.sessions) (sym c.as_slice.ensures.value) stands.sessions in
    let e = c.in_ok-tell_ends.ensures.after told world.sessions are in
    let held = holds_after_ports world.content c.args.self.now.keeper old mid stands.holds (c.tell_ends.ensures.files told) (c.tell_ends.ensures.moments told world.sessions are) in
    on_ok_weaker c.flush.result
    (λ holds. done_after_act world stands.holds.keeps.not_worn (mark_now old) (mark_now new) _ new
    (subst (λ (m : Mark). AfterEnds world.sessions (mark_now old) m) (sym (same_mark (c.flush.ensures.moments told world.content held))) e)
    (record { fresh = stands.fresh; holds = holds; sessions = subst (λ (l : List Session). AreSessions l []) (sym c.clear.ensures.items) tt }))
    (c.flush.ensures.after told world.content held)

pub returns-clause-moments : goal.returns-clause-moments
returns-clause-moments g c told world stands =
    let old = g.H.Outside.state c.args.host.now in
    let mid = g.H.Outside.state c.tell_ends.new.host in
    let start = mark_now old in
    let are = subst (λ (l : List Session). AreSessions l world.sessions) (sym c.as_slice.ensures.value) stands.sessions in
    let e = c.in_ok-tell_ends.ensures.after told world.sessions are in
    let held = holds_after_ports world.content c.args.self.now.keeper old mid stands.holds (c.tell_ends.ensures.files told) (c.tell_ends.ensures.moments told world.sessions are) in
    let first = by_moment (c.tell_ends.ensures.moments told world.sessions are) (done_in_act world stands.holds.keeps.not_worn start)
    (λ mark disk x left. done_leaves_act world stands.holds.keeps.not_worn start mark disk x
    (last_left world.content (flushed world.content) disk (flush_goes world.content) (left_last world.content c.args.self.now.keeper old stands.holds disk left))) in
    let ended : (mark : Mark) → mark ≡ mark_now mid → InEnds world.sessions start mark = λ mark same. subst (InEnds world.sessions start) (sym same) (ends_told world.sessions start (mark_now mid) e) in
    goes_on first (c.flush.ensures.moments told world.content held)
    (λ mark same. done_in_act world stands.holds.keeps.not_worn start mark (ended mark same))
    (λ mark disk same left. done_leaves_act world stands.holds.keeps.not_worn start mark disk (ended mark same) left)
