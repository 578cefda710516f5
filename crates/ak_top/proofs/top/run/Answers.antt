use Rattle.std.proofs.Common.{◌∙◌, sym, ap, subst, arith}
use Rattle.std.proofs.lemmas.Result.{err_from_is_err_and, on_ok_weaker}
use Rattle.ak_host.specs.Marks.{Mark}
use Rattle.ak_host.proofs.Passing.{same_mark}
use Rattle.ak_node.specs.Calls.{console_of}
use Rattle.ak_node.specs.Opening.{IsNodeOpenStop}
use Rattle.ak_top.proofs.Commands.{quiet_passes}
use Rattle.ak_top.proofs.Missing.{open_missing}
use Rattle.ak_top.proofs.Serving.{holds_still, keeps_none, keeps_served, quiet_served, served_from}
use Rattle.ak_top.proofs.Stopping.{open_failed, open_run, run_stops, stops_serving}
use Rattle.ak_top.specs.Calls.{IsBudget}
use Rattle.ak_top.specs.Turns.{IsRefusal, IsDamage}
use Rattle.ak_top.proofs.Turning.{untouched_of, stop_handed, on_stop_weaker, serve_refuses_none, idle_not_some, turns_from}
use Rattle.ak_top.proofs.top.run.Goals as goal

pub returns-in_err-node-clause-cause : goal.returns-in_err-node-clause-cause
returns-in_err-node-clause-cause g c =
    let p = err_from_is_err_and c.from_residual.result c.from_residual.ensures.1 in
    rw (p.1, p.2) (open_run g.H.Outside.tells (g.H.Outside.state c.args.host.now) (g.H.Outside.state c.open.new.disk) c.in_err-node.field-0.0 c.in_err-node.ensures.err)

pub returns-in_err-node-clause-no_store : goal.returns-in_err-node-clause-no_store
returns-in_err-node-clause-no_store g c told none =
    let p = err_from_is_err_and c.from_residual.result c.from_residual.ensures.1 in
    rw (p.1, p.2) (open_missing g.H.Outside.tells told (g.H.Outside.state c.args.host.now) (g.H.Outside.state c.open.new.disk) none c.in_err-node.field-0.0 c.in_err-node.ensures.err)

pub returns-in_err-node-clause-quiet : goal.returns-in_err-node-clause-quiet
returns-in_err-node-clause-quiet g c told view sound stands = quiet_passes view (c.open.ensures.moments told)

pub returns-in_err-node-clause-stands : goal.returns-in_err-node-clause-stands
returns-in_err-node-clause-stands g c told view sound stands =
    let old = g.H.Outside.state c.args.host.now in
    let new = g.H.Outside.state c.open.new.disk in
    let run = c.open.ensures.moments told in
    keeps_none view old new (open_failed c.from_residual.result c.in_err-node.field-0.0 c.from_residual.ensures.1 (c.in_err-node.ensures.sound told sound))
    run.later (holds_still old new (λ disk left. left) run)

pub returns-clause-silent : goal.returns-clause-silent
returns-clause-silent g c told = c.serve.ensures.silent told ∙ ap (λ (m : Mark). console_of m) (same_mark (c.open.ensures.moments told))

pub returns-clause-quiet : goal.returns-clause-quiet
returns-clause-quiet g c told view sound stands =
    let old = g.H.Outside.state c.args.host.now in
    let mid = g.H.Outside.state c.open.new.disk in
    let run = c.open.ensures.moments told in
    let there = c.in_ok-node.ensures.stands told view sound stands in
    quiet_served view c.in_ok-node.node old mid (g.H.Outside.state c.serve.new.host) (same_mark run) there (c.serve.ensures.moments told view there) run

pub returns-clause-served : goal.returns-clause-served
returns-clause-served g c told view sound stands =
    let run = c.open.ensures.moments told in
    let there = c.in_ok-node.ensures.stands told view sound stands in
    served_from view _ _ (g.H.Outside.state c.serve.new.host) c.serve.result (same_mark run) (record {
      done = c.serve.ensures.done told view there;
      kept = c.serve.ensures.kept told view there;
      fresh = c.serve.ensures.fresh told view there;
      spent = c.serve.ensures.spent told view there;
      complete = c.serve.ensures.complete told view there;
      fresh_spent = c.serve.ensures.fresh_spent told view there;
      worn = c.serve.ensures.worn told view there;
    })

pub returns-clause-cause : goal.returns-clause-cause
returns-clause-cause g c =
    run_stops g.H.Outside.tells _ _ (g.H.Outside.state c.args.host.now) (g.H.Outside.state c.open.new.disk) (g.H.Outside.state c.serve.new.host) c.serve.result c.in_ok-node.ensures.found
    c.open.ensures.disk_later (omega (arith, c.open.ensures.port_faults))
    (λ told view sound stands. (returns-clause-served g c told view sound stands).worn) c.serve.ensures.cause

pub returns-clause-sound : goal.returns-clause-sound
returns-clause-sound g c told view sound stands =
    let there = c.in_ok-node.ensures.stands told view sound stands in
    stops_serving g.H.Outside.tells _ (g.H.Outside.state c.open.new.disk) (g.H.Outside.state c.serve.new.host) c.serve.result c.serve.ensures.cause (c.serve.ensures.sound told view there)

pub returns-clause-stands : goal.returns-clause-stands
returns-clause-stands g c told view sound stands =
    let old = g.H.Outside.state c.args.host.now in
    let mid = g.H.Outside.state c.open.new.disk in
    let run = c.open.ensures.moments told in
    let there = c.in_ok-node.ensures.stands told view sound stands in
    keeps_served view c.in_ok-node.node old mid (g.H.Outside.state c.serve.new.host) (same_mark run) there (c.serve.ensures.moments told view there) run.later (holds_still old mid (λ disk left. left) run)

pub returns-in_err-node-clause-refused : goal.returns-in_err-node-clause-refused
returns-in_err-node-clause-refused g c told =
    stop_handed IsRefusal c.from_residual.result c.in_err-node.field-0.0 c.from_residual.ensures.1
    (λ refused. untouched_of (record { sizes = c.open.ensures.sizes; files = c.open.ensures.files told; moments = c.open.ensures.moments told }))

pub returns-in_err-node-clause-damaged : goal.returns-in_err-node-clause-damaged
returns-in_err-node-clause-damaged g c told idle =
    stop_handed IsDamage c.from_residual.result c.in_err-node.field-0.0 c.from_residual.ensures.1
    (λ damage. untouched_of (record { sizes = c.open.ensures.sizes; files = c.open.ensures.files told; moments = c.open.ensures.moments told }))

pub returns-in_err-node-clause-all : goal.returns-in_err-node-clause-all
returns-in_err-node-clause-all g c told =
    stop_handed IsBudget c.from_residual.result c.in_err-node.field-0.0 c.from_residual.ensures.1
    (λ budget. absurd (subst (IsNodeOpenStop g.H.Outside.tells (g.H.Outside.state c.args.host.now) (g.H.Outside.state c.open.new.disk)) budget c.in_err-node.ensures.err))

pub returns-clause-refused : goal.returns-clause-refused
returns-clause-refused g c told =
    serve_refuses_none _ g.H.Outside.tells c.in_ok-node.node.keeper.forest.meta (g.H.Outside.state c.open.new.disk) (g.H.Outside.state c.serve.new.host) c.serve.result c.serve.ensures.cause.stops

pub returns-clause-damaged : goal.returns-clause-damaged
returns-clause-damaged g c told idle =
    let start = ap (λ (m : Mark). m.turns) (same_mark (c.open.ensures.moments told)) in
    on_stop_weaker IsDamage c.serve.result (λ some. absurd (idle_not_some (idle ∙ sym start) some)) (c.serve.ensures.damaged told)

pub returns-clause-finished : goal.returns-clause-finished
returns-clause-finished g c told =
    on_ok_weaker c.serve.result (λ done. turns_from (ap (λ (m : Mark). m.turns) (same_mark (c.open.ensures.moments told))) done) (c.serve.ensures.finished told)

pub returns-clause-all : goal.returns-clause-all
returns-clause-all g c told =
    on_stop_weaker IsBudget c.serve.result (λ all. turns_from (ap (λ (m : Mark). m.turns) (same_mark (c.open.ensures.moments told))) all) (c.serve.ensures.all told)

pub returns-clause-no_store : goal.returns-clause-no_store
returns-clause-no_store g c told none = absurd (c.in_ok-node.ensures.no_store told none)
