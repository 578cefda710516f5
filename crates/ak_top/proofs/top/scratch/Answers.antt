use Rattle.std.proofs.Common.{◌∙◌, sym, ap, subst, arith, inl}
use Rattle.std.proofs.lemmas.Result.{IfErr-weaker, on_ok_weaker}
use Rattle.ak_host.specs.Marks.{Mark}
use Rattle.ak_host.proofs.Passing.{same_mark}
use Rattle.ak_node.specs.Calls.{console_of}
use Rattle.ak_record.specs.Stops.{IsMakeStop}
use Rattle.ak_world.specs.Views.{first_view}
use Rattle.ak_top.specs.Commands.{scratch_limits}
use Rattle.ak_top.specs.Ends.{IsServing, IsServingOrThere}
use Rattle.ak_top.proofs.Commands.{quiet_passes}
use Rattle.ak_top.proofs.Making.{free_none}
use Rattle.ak_top.proofs.Serving.{keeps_none, keeps_served, quiet_served, served_from, making_still}
use Rattle.ak_top.proofs.Stopping.{make_failed, scratch_stops, stops_serving}
use Rattle.ak_top.specs.Calls.{IsBudget}
use Rattle.ak_top.specs.Turns.{IsRefusal, IsDamage}
use Rattle.ak_top.proofs.Turning.{stop_handed, on_stop_weaker, on_ok_all, serve_refuses_none, make_refused, make_undamaged, idle_not_some, turns_from}
use Rattle.ak_top.proofs.top.scratch.Goals as goal

pub returns-in_err-node-clause-quiet : goal.returns-in_err-node-clause-quiet
returns-in_err-node-clause-quiet g c told = quiet_passes (first_view scratch_limits) (c.make.ensures.passes told)

pub returns-in_err-node-clause-stands : goal.returns-in_err-node-clause-stands
returns-in_err-node-clause-stands g c told =
    let old = g.H.Outside.state c.args.host.now in
    let new = g.H.Outside.state c.make.new.disk in
    let run = c.make.ensures.passes told in
    keeps_none (first_view scratch_limits) old new
    (make_failed g.H.Outside.tells old new c.from_residual.result c.in_err-node.field-0.0 c.from_residual.ensures.1 c.in_err-node.ensures.err) run.later
    (making_still scratch_limits old new run (λ free. c.make.ensures.moments told (λ disk left. free_none disk (free disk left))))

pub returns-clause-exists : goal.returns-clause-exists
returns-clause-exists g c told taken = absurd (c.in_ok-node.ensures.exists told taken)

pub returns-clause-silent : goal.returns-clause-silent
returns-clause-silent g c told = c.serve.ensures.silent told ∙ ap (λ (m : Mark). console_of m) (same_mark (c.make.ensures.passes told))

pub returns-clause-quiet : goal.returns-clause-quiet
returns-clause-quiet g c told =
    let old = g.H.Outside.state c.args.host.now in
    let mid = g.H.Outside.state c.make.new.disk in
    let run = c.make.ensures.passes told in
    let view = first_view scratch_limits in
    let there = c.in_ok-node.ensures.stands told in
    quiet_served view c.in_ok-node.node old mid (g.H.Outside.state c.serve.new.host) (same_mark run) there (c.serve.ensures.moments told view there) run

pub returns-clause-served : goal.returns-clause-served
returns-clause-served g c told =
    let run = c.make.ensures.passes told in
    let view = first_view scratch_limits in
    let there = c.in_ok-node.ensures.stands told in
    served_from view _ _ (g.H.Outside.state c.serve.new.host) c.serve.result (same_mark run) (record {
      done = c.serve.ensures.done told view there;
      kept = c.serve.ensures.kept told view there;
      fresh = c.serve.ensures.fresh told view there;
      spent = c.serve.ensures.spent told view there;
      complete = c.serve.ensures.complete told view there;
      fresh_spent = c.serve.ensures.fresh_spent told view there;
      worn = c.serve.ensures.worn told view there;
    })

pub returns-clause-cause : goal.returns-clause-cause
returns-clause-cause g c =
    scratch_stops g.H.Outside.tells _ (g.H.Outside.state c.args.host.now) (g.H.Outside.state c.make.new.disk) (g.H.Outside.state c.serve.new.host) c.serve.result
    (λ told. c.serve.ensures.sound told (first_view scratch_limits) (c.in_ok-node.ensures.stands told))
    c.make.ensures.disk_later (omega (arith, c.make.ensures.port_faults))
    (λ told. (returns-clause-served g c told).worn) c.serve.ensures.cause

pub returns-clause-sound : goal.returns-clause-sound
returns-clause-sound g c told =
    let view = first_view scratch_limits in
    let there = c.in_ok-node.ensures.stands told in
    IfErr-weaker c.serve.result IsServing IsServingOrThere (λ s is. inl is)
    (stops_serving g.H.Outside.tells _ (g.H.Outside.state c.make.new.disk) (g.H.Outside.state c.serve.new.host) c.serve.result c.serve.ensures.cause (c.serve.ensures.sound told view there))

pub returns-clause-stands : goal.returns-clause-stands
returns-clause-stands g c told =
    let old = g.H.Outside.state c.args.host.now in
    let mid = g.H.Outside.state c.make.new.disk in
    let run = c.make.ensures.passes told in
    let view = first_view scratch_limits in
    let there = c.in_ok-node.ensures.stands told in
    keeps_served view c.in_ok-node.node old mid (g.H.Outside.state c.serve.new.host) (same_mark run) there (c.serve.ensures.moments told view there) run.later
    (making_still scratch_limits old mid run (λ free. c.make.ensures.moments told (λ disk left. free_none disk (free disk left))))

pub returns-in_err-node-clause-refused : goal.returns-in_err-node-clause-refused
returns-in_err-node-clause-refused g c told =
    stop_handed IsRefusal c.from_residual.result c.in_err-node.field-0.0 c.from_residual.ensures.1
    (make_refused g.H.Outside.tells (g.H.Outside.state c.args.host.now) (g.H.Outside.state c.make.new.disk) c.in_err-node.field-0.0 told c.in_err-node.ensures.err (c.make.ensures.kept told))

pub returns-in_err-node-clause-damaged : goal.returns-in_err-node-clause-damaged
returns-in_err-node-clause-damaged g c told idle =
    stop_handed IsDamage c.from_residual.result c.in_err-node.field-0.0 c.from_residual.ensures.1
    (λ damage. absurd (make_undamaged g.H.Outside.tells (g.H.Outside.state c.args.host.now) (g.H.Outside.state c.make.new.disk) c.in_err-node.field-0.0 c.in_err-node.ensures.err damage))

pub returns-in_err-node-clause-all : goal.returns-in_err-node-clause-all
returns-in_err-node-clause-all g c told =
    stop_handed IsBudget c.from_residual.result c.in_err-node.field-0.0 c.from_residual.ensures.1
    (λ budget. absurd (subst (IsMakeStop g.H.Outside.tells (g.H.Outside.state c.args.host.now) (g.H.Outside.state c.make.new.disk)) budget c.in_err-node.ensures.err))

pub returns-clause-sizes : goal.returns-clause-sizes
returns-clause-sizes g c = on_ok_all c.serve.result (c.serve.ensures.sizes ∙ c.in_ok-node.ensures.sizes)

pub returns-clause-refused : goal.returns-clause-refused
returns-clause-refused g c told =
    serve_refuses_none _ g.H.Outside.tells c.in_ok-node.node.keeper.forest.meta (g.H.Outside.state c.make.new.disk) (g.H.Outside.state c.serve.new.host) c.serve.result c.serve.ensures.cause.stops

pub returns-clause-damaged : goal.returns-clause-damaged
returns-clause-damaged g c told idle =
    let start = ap (λ (m : Mark). m.turns) (same_mark (c.make.ensures.passes told)) in
    on_stop_weaker IsDamage c.serve.result (λ some. absurd (idle_not_some (idle ∙ sym start) some)) (c.serve.ensures.damaged told)

pub returns-clause-finished : goal.returns-clause-finished
returns-clause-finished g c told =
    on_ok_weaker c.serve.result (λ done. turns_from (ap (λ (m : Mark). m.turns) (same_mark (c.make.ensures.passes told))) done) (c.serve.ensures.finished told)

pub returns-clause-all : goal.returns-clause-all
returns-clause-all g c told =
    on_stop_weaker IsBudget c.serve.result (λ all. turns_from (ap (λ (m : Mark). m.turns) (same_mark (c.make.ensures.passes told))) all) (c.serve.ensures.all told)
