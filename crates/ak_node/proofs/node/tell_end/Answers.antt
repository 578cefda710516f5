use Rattle.std.proofs.Common.{true, false}
use Rattle.std.proofs.lemmas.Result.{on_ok_weaker}
use Rattle.ak_host.specs.Moments.{mark_now}
use Rattle.ak_host.proofs.Passing.{ports_leave}
use Rattle.ak_node.proofs.Staying.{by_moment}
use Rattle.ak_node.proofs.Tellings.{told_nothing}
use Rattle.ak_node.proofs.Turns.{cut_gives}
use Rattle.ak_node.proofs.node.tell_end.Goals as goal

pub returns-then-is_cut-clause-after : goal.returns-then-is_cut-clause-after
returns-then-is_cut-clause-after g c told stream has =
    on_ok_weaker c.refuse.result (λ reply. record { reply = _; gives = cut_gives stream true (c.if-is_cut.ensures stream has); told = reply }) (c.refuse.ensures.told told)

pub returns-then-is_cut-clause-moments : goal.returns-then-is_cut-clause-moments
returns-then-is_cut-clause-moments g c told stream has =
    by_moment (c.refuse.ensures.moments told) (λ mark m. record { reply = _; gives = cut_gives stream true (c.if-is_cut.ensures stream has); told = m }) (λ mark disk m left. left)

pub returns-else-is_cut-clause-after : goal.returns-else-is_cut-clause-after
returns-else-is_cut-clause-after g c told stream has =
    record { reply = _; gives = cut_gives stream false (c.if-is_cut.ensures stream has); told = told_nothing (mark_now (g.H.Outside.state c.args.host.now)) c.args.session.now.port }

pub returns-then-is_cut-clause-leaves : goal.returns-then-is_cut-clause-leaves
returns-then-is_cut-clause-leaves g c told disk left = ports_leave (c.refuse.ensures.moments told) disk left
