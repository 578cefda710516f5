use Rattle.std.proofs.Common.{◌≡◌, ℕ, ◌^◌, ◌≤◌, true, false, get_or, drop, sym, ap, subst}
use Rattle.ak_levels.specs.Pending.{Lists, with_places}
use Rattle.ak_levels.proofs.Lists.{if_ok, either, has_places}
use Rattle.ak_levels.proofs.levels.Levels.prepare.Goals as goal

pub returns-clause-places : goal.returns-clause-places
returns-clause-places c =
    let made : c.place.new.self ≡ with_places c.args.self.now c.levels_in.result → (k : ℕ) → k ≤ 10 → 32 ^ k ≤ c.args.leaves → get_or c.place.new.self.placed k false ≡ true =
    λ e k few used. subst (λ (v : Lists). get_or v.placed k false ≡ true) (sym e) (has_places c.levels_in.result (drop c.levels_in.result c.args.self.now.placed) k (c.levels_in.ensures.each k few used)) in
    if_ok _ _ _ made c.place.ensures.places

pub returns-clause-pending : goal.returns-clause-pending
returns-clause-pending c =
    either _ _ _ _
    (λ (e : c.place.new.self ≡ with_places c.args.self.now c.levels_in.result). ap (λ (v : Lists). v.pending) e)
    (λ (e : c.place.new.self ≡ c.args.self.now). ap (λ (v : Lists). v.pending) e)
    c.place.ensures.places c.place.ensures.error
