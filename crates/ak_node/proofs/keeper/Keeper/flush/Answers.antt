use Rattle.std.proofs.Common.{length}
use Rattle.ak_node.proofs.Flushing.{closing_passes, flush_passes}
use Rattle.ak_world.specs.Steps.{closed_from}
use Rattle.std.proofs.lemmas.Result.{on_ok_weaker}
use Rattle.ak_node.proofs.keeper.Keeper.flush.Goals as goal

pub returns-in_err-close_all-clause-moments : goal.returns-in_err-close_all-clause-moments
returns-in_err-close_all-clause-moments g c told content holds =
    closing_passes content (g.D.Outside.state c.args.disk.now) (g.D.Outside.state c.close_all.new.disk) (c.close_all.ensures.moments told content holds)

pub returns-clause-moments : goal.returns-clause-moments
returns-clause-moments g c told content holds =
    let held = c.in_ok-close_all.ensures.after told content holds in
    flush_passes content (g.D.Outside.state c.args.disk.now) (g.D.Outside.state c.close_all.new.disk) (g.D.Outside.state c.view.new.disk) held.keeps.not_worn (c.close_all.ensures.moments told content holds)
    (c.view.ensures.moments told (closed_from (length content.series) 0 content) held)

pub returns-clause-becomes : goal.returns-clause-becomes
returns-clause-becomes g c told = on_ok_weaker c.view.result (λ viewed found was. viewed found (c.in_ok-close_all.ensures.becomes told found was)) (c.view.ensures.becomes told)
