use Rattle.std.proofs.Common.{◌≤◌, List, [], length, ap, ◌∙◌, subst, arith}
use Rattle.ak_inner.specs.declared.reference.Ref.{Ref}
use Rattle.ak_levels.specs.declared.levels.Levels.TheInside.{Inside}
use Rattle.ak_levels.specs.Pending.{with_pending}
use Rattle.ak_levels.proofs.Lists.{none_there, changed, stays}
use Rattle.ak_levels.proofs.levels.Levels.take.Goals as goal
use Rattle.ak_levels.proofs.levels.Levels.take.Goals.{in-Some, in_default}

pub returns-clause-empty : goal.returns-clause-empty
returns-clause-empty c = elim c.match-self-level.branch [
  | in-Some w ↦
      changed c.self.inside.levels c.match-self-level.self-inside.levels c.args.self.now c.args.level c.index-self-level.result w.in-Some.places w.clear.new.self c.self.view_is w.in-Some.is (ap (λ (s : Inside). s.levels) w.self-inside-is)
      ∙ ap (with_pending c.args.self.now c.args.level) w.clear.ensures
  | in_default w ↦
      let none = none_there c.self.inside.levels c.args.self.now c.args.level c.index-self-level.result c.self.view_is c.self.invariant c.requires.level w.in_default.is in
      let some : 1 ≤ length {A = Ref} [] = subst (λ (l : List Ref). 1 ≤ length l) none c.requires.some in
      absurd (omega (arith, some))
]

pub invariant_of-self : goal.invariant_of-self
invariant_of-self c =
    stays c.self.inside.levels c.match-self-level.self-inside.levels c.args.self.now c.args.level [] c.self.view_is c.self.invariant (omega arith) (returns-clause-empty c)

pub returns-clause-valid : goal.returns-clause-valid
returns-clause-valid c = invariant_of-self c
