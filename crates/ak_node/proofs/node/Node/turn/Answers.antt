use Rattle.std.proofs.Common.{◌∙◌, ap, arith, inr, Result, Ok, Err}
use Rattle.std.proofs.lemmas.Result.{IfOk-weaker, on_ok_weaker}
use Rattle.std.specs.Prelude.{IfErr}
use Rattle.ak_base.specs.declared.stop.Stop.{Stop}
use Rattle.ak_host.specs.Marks.{Mark, taken}
use Rattle.ak_tree.proofs.Becoming.{origins_same}
use Rattle.ak_tree.proofs.Telling.{worn_weaker}
use Rattle.ak_node.specs.Standing.{Stands, went_after}
use Rattle.ak_node.proofs.Staying.{holds_after_ports, if_and_ok}
use Rattle.ak_node.proofs.Stopping.{stops_behind}
use Rattle.ak_node.proofs.Turns.{turn_acts, turn_taken, turn_wears, turn_after, turn_failed, went_same}
use Rattle.ak_node.proofs.node.Node.turn.Goals as goal

pub returns-in-Ok-clause-sound : goal.returns-in-Ok-clause-sound
returns-in-Ok-clause-sound g c told world stands =
    let old = g.H.Outside.state c.args.host.now in
    let mid = g.H.Outside.state c.turn.new.self in
    let later : Stands c.args.self.now world mid =
    record { fresh = stands.fresh; holds = holds_after_ports world.content c.args.self.now.keeper old mid stands.holds (c.turn.ensures.disk told).files (c.turn.ensures.moments told); sessions = stands.sessions } in
    c.act.ensures.sound told world later

pub returns-in-Ok-clause-reads : goal.returns-in-Ok-clause-reads
returns-in-Ok-clause-reads g c told world stands none =
    let old = g.H.Outside.state c.args.host.now in
    let mid = g.H.Outside.state c.turn.new.self in
    let later : Stands c.args.self.now world mid =
    record { fresh = stands.fresh; holds = holds_after_ports world.content c.args.self.now.keeper old mid stands.holds (c.turn.ensures.disk told).files (c.turn.ensures.moments told); sessions = stands.sessions } in
    let taking = taken c.in-Ok.turn c.turn.new.into in
    let turns = turn_taken world taking c.args.self.now old mid (g.H.Outside.state c.act.new.host) (c.in-Ok.ensures.given told) (c.act.ensures.moments told world later) in
    c.act.ensures.reads told world later (none taking turns) ∙ (c.turn.ensures.disk told).reads

pub returns-in-Ok-clause-worn : goal.returns-in-Ok-clause-worn
returns-in-Ok-clause-worn g c told world stands =
    let old = g.H.Outside.state c.args.host.now in
    let mid = g.H.Outside.state c.turn.new.self in
    let later : Stands c.args.self.now world mid =
    record { fresh = stands.fresh; holds = holds_after_ports world.content c.args.self.now.keeper old mid stands.holds (c.turn.ensures.disk told).files (c.turn.ensures.moments told); sessions = stands.sessions } in
    worn_weaker c.act.result
    (λ stop wears. turn_wears world (taken c.in-Ok.turn c.turn.new.into) c.args.self.now old mid (g.H.Outside.state c.act.new.host) (c.in-Ok.ensures.given told) stop (c.act.ensures.moments told world later) wears)
    (c.act.ensures.worn told world later)

pub returns-in-Ok-clause-after : goal.returns-in-Ok-clause-after
returns-in-Ok-clause-after g c told world stands =
    let old = g.H.Outside.state c.args.host.now in
    let mid = g.H.Outside.state c.turn.new.self in
    let later : Stands c.args.self.now world mid =
    record { fresh = stands.fresh; holds = holds_after_ports world.content c.args.self.now.keeper old mid stands.holds (c.turn.ensures.disk told).files (c.turn.ensures.moments told); sessions = stands.sessions } in
    if_and_ok c.act.result (went_after c.in-Ok.turn) c.act.ensures.went (c.act.ensures.after told world later)
    (λ went is acted. turn_after world (taken c.in-Ok.turn c.turn.new.into) c.args.self.now old mid (g.H.Outside.state c.act.new.host) (c.in-Ok.ensures.given told) c.act.new.self went (is ∙ went_same c.in-Ok.turn c.turn.new.into) acted)

pub returns-in-Ok-clause-moments : goal.returns-in-Ok-clause-moments
returns-in-Ok-clause-moments g c told world stands =
    let old = g.H.Outside.state c.args.host.now in
    let mid = g.H.Outside.state c.turn.new.self in
    let later : Stands c.args.self.now world mid =
    record { fresh = stands.fresh; holds = holds_after_ports world.content c.args.self.now.keeper old mid stands.holds (c.turn.ensures.disk told).files (c.turn.ensures.moments told); sessions = stands.sessions } in
    let taking = taken c.in-Ok.turn c.turn.new.into in
    turn_acts world taking c.args.self.now old mid (g.H.Outside.state c.act.new.host) (c.in-Ok.ensures.given told) stands (c.turn.ensures.moments told) (c.act.ensures.moments told world later)

pub returns-in-Err-clause-moments : goal.returns-in-Err-clause-moments
returns-in-Err-clause-moments g c told world stands =
    turn_failed world c.args.self.now (g.H.Outside.state c.args.host.now) (g.H.Outside.state c.turn.new.self) stands (c.in-Err.ensures.given_err told) (c.turn.ensures.moments told)

pub returns-in-Ok-clause-stops : goal.returns-in-Ok-clause-stops
returns-in-Ok-clause-stops g c fresh =
    let meta = c.args.self.now.keeper.forest.meta in
    let old = g.H.Outside.state c.args.host.now in
    let mid = g.H.Outside.state c.turn.new.self in
    stops_behind g.H.Outside.tells meta meta old mid (g.H.Outside.state c.act.new.host) c.act.result (omega (arith, c.turn.ensures.disk_faults)) c.turn.ensures.cause.later c.turn.ensures.sizes
    (λ told. origins_same old mid meta (c.turn.ensures.disk told).files) (c.act.ensures.stops fresh)

pub returns-in-Ok-clause-becomes : goal.returns-in-Ok-clause-becomes
returns-in-Ok-clause-becomes g c told =
    let same = origins_same (g.H.Outside.state c.args.host.now) (g.H.Outside.state c.turn.new.self) c.args.self.now.keeper.forest.meta (c.turn.ensures.disk told).files in
    on_ok_weaker c.act.result (λ acted found was. acted found (same found was)) (c.act.ensures.becomes told)

if_err_all : {T : Type 0} {Q : Stop → Type 0} (r : Result T Stop) → ((s : Stop) → Q s) → IfErr r Q
if_err_all (Ok v) all = tt
if_err_all (Err s) all = all s

pub returns-in-Ok-clause-taken : goal.returns-in-Ok-clause-taken
returns-in-Ok-clause-taken g c told free =
    IfOk-weaker c.act.result _ _ (λ went is. record {
      turn = taken c.in-Ok.turn c.turn.new.into;
      turns_are = c.act.ensures.turns told ∙ ap (λ (m : Mark). m.turns) (c.in-Ok.ensures.given told);
      went_is = is ∙ went_same c.in-Ok.turn c.turn.new.into;
    }) c.act.ensures.went

pub returns-in-Ok-clause-stopped : goal.returns-in-Ok-clause-stopped
returns-in-Ok-clause-stopped g c told free =
    if_err_all c.act.result (λ stop. inr (taken c.in-Ok.turn c.turn.new.into, c.act.ensures.turns told ∙ ap (λ (m : Mark). m.turns) (c.in-Ok.ensures.given told)))
