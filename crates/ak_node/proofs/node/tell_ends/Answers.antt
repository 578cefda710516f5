use Rattle.std.proofs.Common.{arith, rules, subst, ◌∙◌, List}
use Rattle.std.proofs.lemmas.List.{take_all}
use Rattle.ak_host.specs.Moments.{mark_now}
use Rattle.ak_host.proofs.Passing.{port_goes_on}
use Rattle.ak_run.specs.Sessions.{Session as Stream}
use Rattle.ak_node.specs.Standing.{AfterEnds}
use Rattle.ak_node.proofs.Sessions.{same_length}
use Rattle.ak_node.proofs.Stopping.{stops_on}
use Rattle.ak_tree.proofs.Becoming.{origins_same}
use Rattle.ak_node.proofs.Turns.{some_port, ends_step, ends_within}
use Rattle.ak_node.proofs.node.tell_ends.Goals as goal

pub returns-in_err-tell_end-clause-moments : goal.returns-in_err-tell_end-clause-moments
returns-in_err-tell_end-clause-moments g c told streams are =
    let some = some_port c.args.sessions.now c.loop-session.session-index c.session-item.result c.requires c.loop-session-test.true c.session-item.is in
    port_goes_on (c.loop-session.invariant.moments told streams are)
    (ends_within c.args.sessions.now streams c.loop-session.session-index c.session-item.result (mark_now (g.H.Outside.state c.args.host.now)) (mark_now (g.H.Outside.state c.loop-session.host)) are c.loop-session-test.true c.session-item.is some
    (c.loop-session.invariant.told told streams are) (c.tell_end.ensures.moments told))
    (λ mark is. is)

pub returns-in_err-tell_end-clause-leaves : goal.returns-in_err-tell_end-clause-leaves
returns-in_err-tell_end-clause-leaves g c told disk left = c.loop-session.invariant.leaves told disk (c.tell_end.ensures.leaves told disk left)

pub returns-in_err-tell_end-clause-stops : goal.returns-in_err-tell_end-clause-stops
returns-in_err-tell_end-clause-stops g c was =
    let stops = stops_on _ _ _ _ _ _ _ _ (c.loop-session.invariant.stops was)
    (λ told. origins_same (g.H.Outside.state c.args.host.now) (g.H.Outside.state c.loop-session.host) was (c.loop-session.invariant.files told)) (c.in_err-tell_end.ensures.stops was) in
    search rules

pub loop-session-preserved : goal.loop-session-preserved
loop-session-preserved g c =
    let some = some_port c.args.sessions.now c.loop-session.session-index c.session-item.result c.requires c.loop-session-test.true c.session-item.is in
    record {
      stops = λ was. stops_on _ _ _ _ _ _ _ _ (c.loop-session.invariant.stops was)
          (λ told. origins_same (g.H.Outside.state c.args.host.now) (g.H.Outside.state c.loop-session.host) was (c.loop-session.invariant.files told)) (c.in_ok-tell_end.ensures.stops was);
      silent = λ told. c.tell_end.ensures.silent told some ∙ c.loop-session.invariant.silent told;
      turns = λ told. c.tell_end.ensures.turns told ∙ c.loop-session.invariant.turns told;
      reads = λ told. c.tell_end.ensures.reads told ∙ c.loop-session.invariant.reads told;
      files = λ told. c.tell_end.ensures.files told ∙ c.loop-session.invariant.files told;
      leaves = λ told disk left. c.loop-session.invariant.leaves told disk (c.tell_end.ensures.leaves told disk left);
      told = λ told streams are. ends_step c.args.sessions.now streams c.loop-session.session-index c.session-item.result (mark_now (g.H.Outside.state c.args.host.now)) (mark_now (g.H.Outside.state c.loop-session.host)) are c.loop-session-test.true c.session-item.is some
          (c.loop-session.invariant.told told streams are) (mark_now (g.H.Outside.state c.tell_end.new.host)) (c.in_ok-tell_end.ensures.after told);
      moments = λ told streams are. port_goes_on (c.loop-session.invariant.moments told streams are)
          (ends_within c.args.sessions.now streams c.loop-session.session-index c.session-item.result (mark_now (g.H.Outside.state c.args.host.now)) (mark_now (g.H.Outside.state c.loop-session.host)) are c.loop-session-test.true c.session-item.is some
          (c.loop-session.invariant.told told streams are) (c.tell_end.ensures.moments told))
          (λ mark is. is);
    }

pub returns-clause-after : goal.returns-clause-after
returns-clause-after g c told streams are =
    subst (λ (l : List Stream). AfterEnds l (mark_now (g.H.Outside.state c.args.host.now)) (mark_now (g.H.Outside.state c.loop-session.host)))
    (take_all c.loop-session.session-index streams (omega (arith, same_length c.args.sessions.now streams are, c.loop-session-test.false))) (c.loop-session.invariant.told told streams are)
