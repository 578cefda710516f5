use Rattle.std.proofs.Common.{sym, subst, ap, ◌∙◌, ◌≡◌, ◌≤◌, List, ℕ}
use Rattle.std.specs.List.{AllByRecursion}
use Rattle.std.proofs.lemmas.Result.{on_ok_weaker}
use Rattle.ak_host.specs.Marks.{ended}
use Rattle.ak_host.specs.Moments.{mark_now}
use Rattle.ak_node.specs.declared.session.Session.{Session}
use Rattle.ak_node.specs.Standing.{AreSessions, place_of, InEnd, AfterEnd}
use Rattle.ak_node.proofs.Sessions.{all_removed, is_removed}
use Rattle.ak_node.proofs.Staying.{by_moment, ok_is, holds_after_ports, ready_after_ports, left_last}
use Rattle.ak_node.proofs.Turns.{quiet_after, no_end, some_port_of, end_in_act, end_leaves_act, end_after_act}
use Rattle.ak_node.proofs.node.Node.end.Goals as goal

pub returns-then-not-is_open-clause-after : goal.returns-then-not-is_open-clause-after
returns-then-not-is_open-clause-after g c told world stands =
    let here = subst (λ (l : List Session). AreSessions l world.sessions) (sym c.as_slice-2.ensures.value) stands.sessions in
    quiet_after world _ (ended c.args.port) _ (g.H.Outside.state c.args.host.now)
    (no_end world c.args.port stands.holds.keeps.not_worn (λ some. let is = (c.is_open.ensures.opened world.sessions here).1 some in cc)) stands

pub returns-clause-ready : goal.returns-clause-ready
returns-clause-ready g c =
    ok_is c.tell_end.result (record {
      ready = ready_after_ports g.H.Outside.tells c.args.self.now.keeper (g.H.Outside.state c.args.host.now) (g.H.Outside.state c.tell_end.new.host) c.requires.ready.ready (c.tell_end.ensures.stops c.args.self.now.keeper.forest.meta).sizes c.tell_end.ensures.files c.tell_end.ensures.leaves;
      ports = subst (AllByRecursion (λ s. 1 ≤ s.port)) (sym c.remove-session.ensures.items) (all_removed (λ s. 1 ≤ s.port) c.args.self.now.sessions.items c.place-at.result c.requires.ready.ports);
    })

pub returns-clause-after : goal.returns-clause-after
returns-clause-after g c told world stands =
    let old = g.H.Outside.state c.args.host.now in
    let new = g.H.Outside.state c.tell_end.new.host in
    let items = c.args.self.now.sessions.items in
    let here = subst (λ (l : List Session). AreSessions l world.sessions) (sym c.as_slice-2.ensures.value) stands.sessions in
    let at : c.place-at.result ≡ place_of items c.args.port = c.place-at.ensures ∙ ap (λ (l : List Session). place_of l c.args.port) c.as_slice.ensures.value in
    let r = is_removed items world.sessions c.args.port c.place-at.result c.remove-session.result c.remove-session.new.self.items stands.sessions ((c.is_open.ensures.opened world.sessions here).0 c.if-not-is_open.false) at c.remove-session.ensures.value c.remove-session.ensures.items in
    let some = some_port_of items c.args.port c.place-at.result c.remove-session.result c.requires.ready.ports (c.is_open.ensures.within c.if-not-is_open.false) c.as_slice-2.ensures.value c.remove-session.ensures.value r.port_is in
    on_ok_weaker c.tell_end.result
    (λ e. end_after_act world c.args.port r.bytes some stands.holds.keeps.not_worn r.opened (mark_now old) (mark_now new) _ new
    (subst (λ (p : ℕ). AfterEnd p r.bytes (mark_now old) (mark_now new)) r.port_is e)
    (record { fresh = stands.fresh; holds = holds_after_ports world.content c.args.self.now.keeper old new stands.holds (c.tell_end.ensures.files told) (c.tell_end.ensures.moments told r.bytes r.has); sessions = r.are }))
    (c.tell_end.ensures.after told r.bytes r.has)

pub returns-clause-moments : goal.returns-clause-moments
returns-clause-moments g c told world stands =
    let old = g.H.Outside.state c.args.host.now in
    let start = mark_now old in
    let items = c.args.self.now.sessions.items in
    let here = subst (λ (l : List Session). AreSessions l world.sessions) (sym c.as_slice-2.ensures.value) stands.sessions in
    let at : c.place-at.result ≡ place_of items c.args.port = c.place-at.ensures ∙ ap (λ (l : List Session). place_of l c.args.port) c.as_slice.ensures.value in
    let r = is_removed items world.sessions c.args.port c.place-at.result c.remove-session.result c.remove-session.new.self.items stands.sessions ((c.is_open.ensures.opened world.sessions here).0 c.if-not-is_open.false) at c.remove-session.ensures.value c.remove-session.ensures.items in
    let some = some_port_of items c.args.port c.place-at.result c.remove-session.result c.requires.ready.ports (c.is_open.ensures.within c.if-not-is_open.false) c.as_slice-2.ensures.value c.remove-session.ensures.value r.port_is in
    by_moment (c.tell_end.ensures.moments told r.bytes r.has)
    (λ mark e. end_in_act world c.args.port r.bytes some stands.holds.keeps.not_worn r.opened start mark (subst (λ (p : ℕ). InEnd p r.bytes start mark) r.port_is e))
    (λ mark disk e left. end_leaves_act world c.args.port r.bytes some stands.holds.keeps.not_worn r.opened start mark disk (subst (λ (p : ℕ). InEnd p r.bytes start mark) r.port_is e) (left_last world.content c.args.self.now.keeper old stands.holds disk left))
