use Rattle.std.proofs.Common.{◌≡◌, [], ◌∷◌, ◌++◌, List, ap, sym, ◌∙◌, subst, arith}
use Rattle.std.specs.List.{AllByRecursion}
use Rattle.ak_inner.specs.declared.reference.Ref.{Ref}
use Rattle.ak_levels.specs.Entries.{IsTally}
use Rattle.ak_levels.specs.Pending.{pending_at}
use Rattle.ak_levels.proofs.Lifts.{pending_with}
use Rattle.ak_levels.proofs.tests.two_leaves_are_lifted.Goals as goal

pub lift-top-requires-clause-tallies : goal.lift-top-requires-clause-tallies
lift-top-requires-clause-tallies g c =
    let none : pending_at c.reserve.new.self 0 ≡ [] = ap (λ (l : List (List Ref)). pending_at (record { pending = l; placed = [] }) 0) (c.reserve.ensures.pending ∙ ap (λ v. v.pending) c.new-levels.ensures) in
    let one : pending_at c.push.new.self 0 ≡ c.leaf_of.result ∷ [] =
    pending_with c.reserve.new.self c.push.new.self 0 _ c.push.ensures.valid (omega arith) c.push.ensures.pushed ∙ ap (λ (l : List Ref). l ++ c.leaf_of.result ∷ []) none in
    subst (λ (l : List Ref). AllByRecursion (IsTally 0) (l ++ c.leaf_of-2.result ∷ [])) (sym one) (c.leaf_of.ensures.tally, (c.leaf_of-2.ensures.tally, tt))
