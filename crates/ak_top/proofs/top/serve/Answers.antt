use Rattle.std.proofs.Common.{◌∙◌, arith, refl, subst, inl}
use Rattle.ak_host.specs.Moments.{mark_now}
use Rattle.ak_host.proofs.Passing.{nothing_passes}
use Rattle.ak_node.specs.declared.node.Went.{Went}
use Rattle.ak_node.specs.declared.node.Went.TheVariants as went
use Rattle.ak_top.specs.Calls.{AfterWhole}
use Rattle.ak_top.proofs.Runs.{running_starts, turn_passes, running_on, ends_done, ends_kept, ends_fresh, wears_run, spent_complete, spent_all, spent_fresh}
use Rattle.ak_top.proofs.Stopping.{worn_on}
use Rattle.ak_node.proofs.Stopping.{stop_before}
use Rattle.ak_node.specs.Standing.{TakesTurn}
use Rattle.ak_top.proofs.Turning.{turns_none, turns_more, turns_done, turns_some, turns_all, turn_not_spent, damaged_one}
use Rattle.ak_top.proofs.top.serve.Goals as goal

pub loop-turn-init : goal.loop-turn-init
loop-turn-init g c = record {
  disk_later = omega arith;
  port_later = omega arith;
  silent = λ told. refl;
  sizes = refl;
  turns = λ told. turns_none (mark_now (g.H.Outside.state c.args.host.now));
  fresh = c.requires.free;
  becomes = λ told found was. was;
  ready = c.requires.ready;
  running = λ told view stands. running_starts view (mark_now (g.H.Outside.state c.args.host.now)) c.args.node (g.H.Outside.state c.args.host.now) stands;
  moments = λ told view stands. nothing_passes _ _ (g.H.Outside.state c.args.host.now);
}

pub loop-turn-preserved : goal.loop-turn-preserved
loop-turn-preserved g c = record {
  disk_later = omega (arith, c.take_turn.ensures.stops.disk_later, c.loop-turn.invariant.disk_later);
  port_later = omega (arith, c.take_turn.ensures.stops.port_later, c.loop-turn.invariant.port_later);
  silent = λ told. c.take_turn.ensures.silent told ∙ c.loop-turn.invariant.silent told;
  sizes = c.take_turn.ensures.stops.sizes ∙ c.loop-turn.invariant.sizes;
  turns = λ told.
      let start = mark_now (g.H.Outside.state c.args.host.now) in
      let old = mark_now (g.H.Outside.state c.loop-turn.host) in
      let new = mark_now (g.H.Outside.state c.take_turn.new.host) in
      turns_more start old new c.loop-turn._turn (c.loop-turn.invariant.turns told) (subst (TakesTurn old new) c.in-Ok-More.field-0-is (c.in-Ok-More.ensures.taken told));
  fresh = c.in-Ok-More.ensures.free;
  becomes = λ told found was. c.in-Ok-More.ensures.becomes told found (c.loop-turn.invariant.becomes told found was);
  ready = c.in-Ok-More.ensures.ready;
  running = λ told view stands.
      let r = c.loop-turn.invariant.running told view stands in
      let start = mark_now (g.H.Outside.state c.args.host.now) in
      let old = g.H.Outside.state c.loop-turn.host in
      let new = g.H.Outside.state c.take_turn.new.host in
      let P : Went → Type 0 = λ w. AfterWhole r.world (mark_now old) (mark_now new) c.take_turn.new.node new w in
      running_on view start (mark_now old) c.loop-turn.node old c.loop-turn._turn r (mark_now new) c.take_turn.new.node new (subst P c.in-Ok-More.field-0-is (c.in-Ok-More.ensures.after told r.world r.stands));
  moments = λ told view stands.
      let r = c.loop-turn.invariant.running told view stands in
      let start = mark_now (g.H.Outside.state c.args.host.now) in
      let old = g.H.Outside.state c.loop-turn.host in
      let new = g.H.Outside.state c.take_turn.new.host in
      turn_passes view start (mark_now old) c.loop-turn.node old c.loop-turn._turn r (g.H.Outside.state c.args.host.now) old new (c.loop-turn.invariant.moments told view stands) (c.take_turn.ensures.moments told r.world r.stands);
}

pub returns-in-Ok-Done-clause-done : goal.returns-in-Ok-Done-clause-done
returns-in-Ok-Done-clause-done g c told view stands =
    let r = c.loop-turn.invariant.running told view stands in
    let start = mark_now (g.H.Outside.state c.args.host.now) in
    let old = g.H.Outside.state c.loop-turn.host in
    let new = g.H.Outside.state c.take_turn.new.host in
    let P : Went → Type 0 = λ w. AfterWhole r.world (mark_now old) (mark_now new) c.take_turn.new.node new w in
    ends_done view start (mark_now old) c.loop-turn.node old c.loop-turn._turn r (mark_now new) c.take_turn.new.node new (subst P c.in-Ok-Done.field-0-is (c.in-Ok-Done.ensures.after told r.world r.stands))

pub returns-in-Ok-Done-clause-kept : goal.returns-in-Ok-Done-clause-kept
returns-in-Ok-Done-clause-kept g c told view stands =
    let r = c.loop-turn.invariant.running told view stands in
    let start = mark_now (g.H.Outside.state c.args.host.now) in
    let old = g.H.Outside.state c.loop-turn.host in
    let new = g.H.Outside.state c.take_turn.new.host in
    let P : Went → Type 0 = λ w. AfterWhole r.world (mark_now old) (mark_now new) c.take_turn.new.node new w in
    ends_kept view start (mark_now old) c.loop-turn.node old c.loop-turn._turn r (mark_now new) c.take_turn.new.node new went.Done (subst P c.in-Ok-Done.field-0-is (c.in-Ok-Done.ensures.after told r.world r.stands))

pub returns-in-Ok-Done-clause-fresh : goal.returns-in-Ok-Done-clause-fresh
returns-in-Ok-Done-clause-fresh g c told view stands =
    let r = c.loop-turn.invariant.running told view stands in
    let start = mark_now (g.H.Outside.state c.args.host.now) in
    let old = g.H.Outside.state c.loop-turn.host in
    let new = g.H.Outside.state c.take_turn.new.host in
    let P : Went → Type 0 = λ w. AfterWhole r.world (mark_now old) (mark_now new) c.take_turn.new.node new w in
    ends_fresh view start (mark_now old) c.loop-turn.node old c.loop-turn._turn r (mark_now new) c.take_turn.new.node new went.Done (subst P c.in-Ok-Done.field-0-is (c.in-Ok-Done.ensures.after told r.world r.stands))

pub returns-in-Ok-Done-clause-moments : goal.returns-in-Ok-Done-clause-moments
returns-in-Ok-Done-clause-moments g c told view stands =
    let r = c.loop-turn.invariant.running told view stands in
    let start = mark_now (g.H.Outside.state c.args.host.now) in
    let old = g.H.Outside.state c.loop-turn.host in
    let new = g.H.Outside.state c.take_turn.new.host in
    turn_passes view start (mark_now old) c.loop-turn.node old c.loop-turn._turn r (g.H.Outside.state c.args.host.now) old new (c.loop-turn.invariant.moments told view stands) (c.take_turn.ensures.moments told r.world r.stands)

pub returns-in-Err-clause-worn : goal.returns-in-Err-clause-worn
returns-in-Err-clause-worn g c told view stands =
    let r = c.loop-turn.invariant.running told view stands in
    let start = mark_now (g.H.Outside.state c.args.host.now) in
    let old = g.H.Outside.state c.loop-turn.host in
    worn_on Went (Unit {0}) c.in-Err.stop (wears_run view start (mark_now old) c.loop-turn.node old c.loop-turn._turn r (mark_now (g.H.Outside.state c.take_turn.new.host))) (c.in-Err.ensures.worn told r.world r.stands)

pub returns-in-Err-clause-moments : goal.returns-in-Err-clause-moments
returns-in-Err-clause-moments g c told view stands =
    let r = c.loop-turn.invariant.running told view stands in
    let start = mark_now (g.H.Outside.state c.args.host.now) in
    let old = g.H.Outside.state c.loop-turn.host in
    let new = g.H.Outside.state c.take_turn.new.host in
    turn_passes view start (mark_now old) c.loop-turn.node old c.loop-turn._turn r (g.H.Outside.state c.args.host.now) old new (c.loop-turn.invariant.moments told view stands) (c.take_turn.ensures.moments told r.world r.stands)

pub returns-clause-spent : goal.returns-clause-spent
returns-clause-spent g c told view stands budget =
    spent_all view (mark_now (g.H.Outside.state c.args.host.now)) (mark_now (g.H.Outside.state c.loop-turn.host)) c.loop-turn.node (g.H.Outside.state c.loop-turn.host) c.loop-turn._turn (c.loop-turn.invariant.running told view stands) (omega arith)

pub returns-clause-complete : goal.returns-clause-complete
returns-clause-complete g c told view stands budget =
    spent_complete view (mark_now (g.H.Outside.state c.args.host.now)) (mark_now (g.H.Outside.state c.loop-turn.host)) c.loop-turn.node (g.H.Outside.state c.loop-turn.host) c.loop-turn._turn (c.loop-turn.invariant.running told view stands)

pub returns-clause-fresh_spent : goal.returns-clause-fresh_spent
returns-clause-fresh_spent g c told view stands budget =
    spent_fresh view (mark_now (g.H.Outside.state c.args.host.now)) (mark_now (g.H.Outside.state c.loop-turn.host)) c.loop-turn.node (g.H.Outside.state c.loop-turn.host) c.loop-turn._turn (c.loop-turn.invariant.running told view stands)

pub returns-in-Err-clause-cause : goal.returns-in-Err-clause-cause
returns-in-Err-clause-cause g c =
    let stops = c.in-Err.ensures.stops in
    let before = c.loop-turn.invariant in
    record {
      disk_later = omega (arith, stops.disk_later, before.disk_later);
      port_later = omega (arith, stops.port_later, before.port_later);
      stops = inl (stop_before g.H.Outside.tells c.args.node.keeper.forest.meta c.loop-turn.node.keeper.forest.meta (g.H.Outside.state c.args.host.now) (g.H.Outside.state c.loop-turn.host) (g.H.Outside.state c.take_turn.new.host) c.in-Err.stop
          before.disk_later before.port_later before.becomes stops.stops);
    }

pub returns-in-Err-clause-sound : goal.returns-in-Err-clause-sound
returns-in-Err-clause-sound g c told view stands =
    let r = c.loop-turn.invariant.running told view stands in
    c.in-Err.ensures.sound told r.world r.stands

pub returns-in-Ok-Done-clause-finished : goal.returns-in-Ok-Done-clause-finished
returns-in-Ok-Done-clause-finished g c told =
    let start = mark_now (g.H.Outside.state c.args.host.now) in
    let old = mark_now (g.H.Outside.state c.loop-turn.host) in
    let new = mark_now (g.H.Outside.state c.take_turn.new.host) in
    turns_done start old new c.loop-turn._turn (c.loop-turn.invariant.turns told) (subst (TakesTurn old new) c.in-Ok-Done.field-0-is (c.in-Ok-Done.ensures.taken told))

pub returns-in-Err-clause-all : goal.returns-in-Err-clause-all
returns-in-Err-clause-all g c told budget =
    absurd (turn_not_spent g.H.Outside.tells c.loop-turn.node.keeper.forest.meta (g.H.Outside.state c.loop-turn.host) (g.H.Outside.state c.take_turn.new.host) c.in-Err.stop budget c.in-Err.ensures.stops.stops)

pub returns-in-Err-clause-damaged : goal.returns-in-Err-clause-damaged
returns-in-Err-clause-damaged g c told damage =
    let start = mark_now (g.H.Outside.state c.args.host.now) in
    let old = mark_now (g.H.Outside.state c.loop-turn.host) in
    let new = mark_now (g.H.Outside.state c.take_turn.new.host) in
    turns_some start old new c.loop-turn._turn (c.loop-turn.invariant.turns told) (damaged_one old new c.in-Err.stop damage (c.in-Err.ensures.stopped told))

pub returns-clause-all : goal.returns-clause-all
returns-clause-all g c told budget =
    turns_all (mark_now (g.H.Outside.state c.args.host.now)) (mark_now (g.H.Outside.state c.loop-turn.host)) c.loop-turn._turn (c.loop-turn.invariant.turns told) (omega arith)
