use Rattle.std.proofs.Common.{◌≡◌, ◌-◌, ◌≤◌, ◌∙◌, IfOk, sym, subst, arith}
use Rattle.ak_levels.specs.Pending.{Lists, AreLists}
use Rattle.ak_levels.proofs.Lists.{place_more, place_already, none_pending, placed_some, placed_lists}
use Rattle.ak_levels.proofs.levels.Levels.+place.Goals as goal

pub returns-clause-places : goal.returns-clause-places
returns-clause-places t c =
    let below = c.in_ok-place.ensures.places in
    let few : c.args.count - 1 ≤ 10 = omega (arith, c.requires) in
    let none = none_pending c.self.inside.levels c.self-2.inside.levels c.args.self.now c.place-2.new.self (c.args.count - 1) c.index-self-top.result c.index-self-top-2.result c.self.view_is c.self-2.view_is c.self.invariant c.self-2.invariant below few (sym c.if-is_some.false ∙ c.is_some.ensures) in
    place_more c.self-2.inside.levels c.args.self.now c.place-2.new.self c.args.count (c.args.count - 1) c.index-self-top-2.result c.in_ok-places.places c.self-2.view_is below (omega (arith, c.if-count-eq0.false)) (subst AreLists c.self.view_is c.self.invariant) few
    (c.in_ok-places.ensures.ok ∙ c.new.ensures) none

pub invariant_of-self : goal.invariant_of-self
invariant_of-self t c =
    let are = subst AreLists c.self.view_is c.self.invariant in
    subst AreLists (sym (returns-clause-places t c)) (placed_lists c.args.self.now c.args.count (omega (arith, are.places, c.requires)) are)

pub returns-then-is_some-clause-places : goal.returns-then-is_some-clause-places
returns-then-is_some-clause-places t c =
    let same = place_already c.self.inside.levels c.args.self.now c.args.count (c.args.count - 1) c.index-self-top.result c.self.view_is c.self.invariant (omega (arith, c.if-count-eq0.false)) (omega (arith, c.requires))
    (placed_some _ (sym c.if-is_some.true ∙ c.is_some.ensures)) in
    subst (λ (v : Lists). IfOk c.place.result (λ x. c.place.new.self ≡ v)) same c.place.ensures.places
