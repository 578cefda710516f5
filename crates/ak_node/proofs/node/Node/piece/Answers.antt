use Rattle.std.proofs.Common.{◌∙◌}
use Rattle.std.proofs.lemmas.Result.{on_ok_weaker}
use Rattle.ak_base.specs.declared.refusal.Refusal.TheVariants.{TooMany}
use Rattle.ak_host.specs.Marks.{piece}
use Rattle.ak_host.specs.Moments.{mark_now}
use Rattle.ak_host.proofs.Passing.{ports_leave}
use Rattle.ak_run.specs.Replies.{refusal_reply}
use Rattle.ak_node.proofs.Sessions.{session_of, session_later}
use Rattle.ak_node.proofs.Staying.{by_moment, ok_is, holds_after_ports, ready_after_ports, left_last}
use Rattle.ak_tree.proofs.Becoming.{origins_same}
use Rattle.ak_tree.proofs.Telling.{worn_weaker}
use Rattle.ak_node.proofs.Turns.{begun_of, begun_reads, piece_in_act, piece_leaves_act, piece_after_act, piece_wears, other_after, other_moment, other_leaves_moment, many_gives}
use Rattle.ak_node.proofs.node.Node.piece.Goals as goal

pub returns-in-Ok-Some-clause-sound : goal.returns-in-Ok-Some-clause-sound
returns-in-Ok-Some-clause-sound g c told world stands =
    let host = g.H.Outside.state c.args.host.now in
    let opened = rw c.in-Ok-Some.field-0-is at (c.in-Ok-Some.ensures.opened world stands.sessions) in
    let place = rw c.in-Ok-Some.field-0-is at c.in-Ok-Some.ensures.within in
    let x = c.index_mut.result.now in
    let s = session_of world c.open_session.new.sessions.items c.args.port c.in-Ok-Some.at x opened.1 place.0 c.index_mut.ensures.value in
    c.read.ensures.sound told (begun_of world c.args.port x (mark_now host) s.1) (begun_reads world c.args.port c.args.self.now.keeper x (mark_now host) host s.1 s.0 stands.holds)

pub returns-in-Ok-Some-clause-reads : goal.returns-in-Ok-Some-clause-reads
returns-in-Ok-Some-clause-reads g c told world stands none =
    let host = g.H.Outside.state c.args.host.now in
    let opened = rw c.in-Ok-Some.field-0-is at (c.in-Ok-Some.ensures.opened world stands.sessions) in
    let place = rw c.in-Ok-Some.field-0-is at c.in-Ok-Some.ensures.within in
    let x = c.index_mut.result.now in
    let s = session_of world c.open_session.new.sessions.items c.args.port c.in-Ok-Some.at x opened.1 place.0 c.index_mut.ensures.value in
    c.read.ensures.reads told (begun_of world c.args.port x (mark_now host) s.1) (begun_reads world c.args.port c.args.self.now.keeper x (mark_now host) host s.1 s.0 stands.holds) none

pub returns-in-Ok-Some-clause-worn : goal.returns-in-Ok-Some-clause-worn
returns-in-Ok-Some-clause-worn g c told world stands =
    let host = g.H.Outside.state c.args.host.now in
    let opened = rw c.in-Ok-Some.field-0-is at (c.in-Ok-Some.ensures.opened world stands.sessions) in
    let place = rw c.in-Ok-Some.field-0-is at c.in-Ok-Some.ensures.within in
    let x = c.index_mut.result.now in
    let s = session_of world c.open_session.new.sessions.items c.args.port c.in-Ok-Some.at x opened.1 place.0 c.index_mut.ensures.value in
    worn_weaker c.read.result
    (piece_wears world c.args.port c.args.bytes.now c.requires.port stands.holds.keeps.not_worn opened.0 x (mark_now host) s.1)
    (c.read.ensures.worn told (begun_of world c.args.port x (mark_now host) s.1) (begun_reads world c.args.port c.args.self.now.keeper x (mark_now host) host s.1 s.0 stands.holds))

pub returns-in-Ok-Some-clause-after : goal.returns-in-Ok-Some-clause-after
returns-in-Ok-Some-clause-after g c told world stands =
    let host = g.H.Outside.state c.args.host.now in
    let new = g.H.Outside.state c.read.new.host in
    let opened = rw c.in-Ok-Some.field-0-is at (c.in-Ok-Some.ensures.opened world stands.sessions) in
    let place = rw c.in-Ok-Some.field-0-is at c.in-Ok-Some.ensures.within in
    let x = c.index_mut.result.now in
    let s = session_of world c.open_session.new.sessions.items c.args.port c.in-Ok-Some.at x opened.1 place.0 c.index_mut.ensures.value in
    on_ok_weaker c.read.result
    (λ after. piece_after_act world c.args.port c.args.bytes.now c.requires.port stands.holds.keeps.not_worn opened.0 x (mark_now host) s.1 _ c.read.new.session (mark_now new) new stands.fresh after
    (session_later world c.open_session.new.sessions.items c.args.port c.in-Ok-Some.at c.read.new.session _ opened.1 place.0 (c.read.ensures.port ∙ s.0)))
    (c.read.ensures.after told (begun_of world c.args.port x (mark_now host) s.1) (begun_reads world c.args.port c.args.self.now.keeper x (mark_now host) host s.1 s.0 stands.holds))

pub returns-in-Ok-Some-clause-moments : goal.returns-in-Ok-Some-clause-moments
returns-in-Ok-Some-clause-moments g c told world stands =
    let host = g.H.Outside.state c.args.host.now in
    let opened = rw c.in-Ok-Some.field-0-is at (c.in-Ok-Some.ensures.opened world stands.sessions) in
    let place = rw c.in-Ok-Some.field-0-is at c.in-Ok-Some.ensures.within in
    let x = c.index_mut.result.now in
    let s = session_of world c.open_session.new.sessions.items c.args.port c.in-Ok-Some.at x opened.1 place.0 c.index_mut.ensures.value in
    by_moment (c.read.ensures.moments told (begun_of world c.args.port x (mark_now host) s.1) (begun_reads world c.args.port c.args.self.now.keeper x (mark_now host) host s.1 s.0 stands.holds))
    (λ mark p. piece_in_act world c.args.port c.args.bytes.now c.requires.port stands.holds.keeps.not_worn opened.0 x (mark_now host) s.1 mark p)
    (λ mark disk p left. piece_leaves_act world c.args.port c.args.bytes.now c.requires.port stands.holds.keeps.not_worn opened.0 x (mark_now host) s.1 mark disk left)

pub returns-in-Ok-None-clause-stops : goal.returns-in-Ok-None-clause-stops
returns-in-Ok-None-clause-stops g c = c.refuse.ensures.stops c.args.self.now.keeper.forest.meta

pub returns-in-Ok-None-clause-ready : goal.returns-in-Ok-None-clause-ready
returns-in-Ok-None-clause-ready g c =
    ok_is c.refuse.result (record {
      ready = ready_after_ports g.H.Outside.tells c.args.self.now.keeper (g.H.Outside.state c.args.host.now) (g.H.Outside.state c.refuse.new.host) c.requires.ready.ready
          (c.refuse.ensures.stops c.args.self.now.keeper.forest.meta).sizes c.refuse.ensures.files (λ told. ports_leave (c.refuse.ensures.moments told));
      ports = c.in-Ok-None.ensures.ports;
    })

pub returns-in-Ok-None-clause-after : goal.returns-in-Ok-None-clause-after
returns-in-Ok-None-clause-after g c told world stands =
    let old = g.H.Outside.state c.args.host.now in
    let new = g.H.Outside.state c.refuse.new.host in
    let many = rw c.in-Ok-None.field-0-is at (c.in-Ok-None.ensures.opened world stands.sessions) in
    on_ok_weaker c.refuse.result
    (other_after world (piece c.args.port c.args.bytes.now) c.args.port (refusal_reply TooMany) c.requires.port (many_gives world c.args.port c.args.bytes.now stands.holds.keeps.not_worn many.0)
    _ (mark_now old) (mark_now new) new (record { fresh = stands.fresh; holds = holds_after_ports world.content c.args.self.now.keeper old new stands.holds (c.refuse.ensures.files told) (c.refuse.ensures.moments told); sessions = many.1 }))
    (c.refuse.ensures.told told)

pub returns-in-Ok-None-clause-moments : goal.returns-in-Ok-None-clause-moments
returns-in-Ok-None-clause-moments g c told world stands =
    let old = g.H.Outside.state c.args.host.now in
    let many = rw c.in-Ok-None.field-0-is at (c.in-Ok-None.ensures.opened world stands.sessions) in
    let gives = many_gives world c.args.port c.args.bytes.now stands.holds.keeps.not_worn many.0 in
    by_moment (c.refuse.ensures.moments told)
    (λ mark m. other_moment world (piece c.args.port c.args.bytes.now) c.args.port (refusal_reply TooMany) c.requires.port gives (mark_now old) mark m)
    (λ mark disk m left. other_leaves_moment world (piece c.args.port c.args.bytes.now) c.args.port (refusal_reply TooMany) c.requires.port gives (mark_now old) mark disk m (left_last world.content c.args.self.now.keeper old stands.holds disk left))

pub returns-in-Ok-None-clause-becomes : goal.returns-in-Ok-None-clause-becomes
returns-in-Ok-None-clause-becomes g c told = ok_is c.refuse.result (origins_same (g.H.Outside.state c.args.host.now) (g.H.Outside.state c.refuse.new.host) c.args.self.now.keeper.forest.meta (c.refuse.ensures.files told))
