use Rattle.std.proofs.Common.{◌≡◌, List, [], ◌∷◌, ◌++◌, ap, sym, ◌∙◌, arith}
use Rattle.std.proofs.lemmas.List.{length_push}
use Rattle.ak_inner.specs.declared.reference.Ref.{Ref}
use Rattle.ak_levels.specs.declared.levels.Levels.TheInside.{Inside}
use Rattle.ak_levels.specs.Pending.{pending_at, with_pending}
use Rattle.ak_levels.proofs.Lists.{pending_there, no_room, changed, stays}
use Rattle.ak_levels.proofs.levels.Levels.push.Goals as goal
use Rattle.ak_levels.proofs.levels.Levels.push.Goals.{in-Some, in_default}

pub returns-clause-pushed : goal.returns-clause-pushed
returns-clause-pushed c = elim c.match-self-level.branch [
  | in-Some w ↦
      let there = pending_there c.self.inside.levels c.args.self.now c.args.level c.index-self-level.result w.in-Some.places c.self.view_is c.self.invariant c.requires.level w.in-Some.is in
      let put : w.push.new.self ≡ pending_at c.args.self.now c.args.level ++ c.args.r ∷ [] = w.push.ensures ∙ ap (λ (l : List Ref). l ++ c.args.r ∷ []) (w.deref_mut.ensures.value ∙ sym there) in
      changed c.self.inside.levels c.match-self-level.self-inside.levels c.args.self.now c.args.level c.index-self-level.result w.in-Some.places w.push.new.self c.self.view_is w.in-Some.is (ap (λ (s : Inside). s.levels) w.self-inside-is)
      ∙ ap (with_pending c.args.self.now c.args.level) put
  | in_default w ↦ absurd (no_room c.self.inside.levels c.args.self.now c.args.level c.index-self-level.result c.self.view_is c.self.invariant c.requires.level w.in_default.is c.requires.room)
]

pub invariant_of-self : goal.invariant_of-self
invariant_of-self c =
    let before = pending_at c.args.self.now c.args.level in
    stays c.self.inside.levels c.match-self-level.self-inside.levels c.args.self.now c.args.level (before ++ c.args.r ∷ []) c.self.view_is c.self.invariant
    (omega (arith, length_push before c.args.r, c.requires.room.free)) (returns-clause-pushed c)

pub returns-clause-valid : goal.returns-clause-valid
returns-clause-valid c = invariant_of-self c
