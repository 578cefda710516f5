use Rattle.std.proofs.Common.{subst}
use Rattle.ak_tree.specs.Standing.{Trees}
use Rattle.ak_tree.proofs.Saved.{SavesTo, SavingPasses, finishing_leaves, finished_stored}
use Rattle.ak_tree.proofs.forest.Forest.save.Goals as goal

pub returns-in-Ok-clause-stored : goal.returns-in-Ok-clause-stored
returns-in-Ok-clause-stored g c told =
    let old = g.D.Outside.state c.args.disk.now in
    let new = g.D.Outside.state c.finish.new.disk in
    subst (λ (f : Trees). SavesTo f.meta c.args.file f.check.number old new) c.self.view_is
    (λ last kept bases levels next stored number.
    finished_stored last c.self.inside.meta kept bases levels c.args.file c.self.inside.check c.begin.new.self old new stored number c.self.invariant.rules_are c.self.invariant.slot_is c.begin.ensures
    next (c.finish.ensures.elsewhere told) (c.in-Ok.ensures.saved told))

pub returns-in-Ok-clause-moments : goal.returns-in-Ok-clause-moments
returns-in-Ok-clause-moments g c told =
    let old = g.D.Outside.state c.args.disk.now in
    let new = g.D.Outside.state c.finish.new.disk in
    subst (λ (f : Trees). SavingPasses f.meta c.args.file f.check.number old new) c.self.view_is
    (λ last kept bases levels stored number.
    finishing_leaves last c.self.inside.meta kept bases levels c.args.file c.self.inside.check c.begin.new.self old new stored number c.self.invariant.rules_are c.self.invariant.slot_is c.begin.ensures
    (c.finish.ensures.moments told))

pub returns-in-Err-clause-moments : goal.returns-in-Err-clause-moments
returns-in-Err-clause-moments g c told =
    let old = g.D.Outside.state c.args.disk.now in
    let new = g.D.Outside.state c.finish.new.disk in
    subst (λ (f : Trees). SavingPasses f.meta c.args.file f.check.number old new) c.self.view_is
    (λ last kept bases levels stored number.
    finishing_leaves last c.self.inside.meta kept bases levels c.args.file c.self.inside.check c.begin.new.self old new stored number c.self.invariant.rules_are c.self.invariant.slot_is c.begin.ensures
    (c.finish.ensures.moments told))
