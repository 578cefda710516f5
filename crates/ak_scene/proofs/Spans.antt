-- Numbers of nodes that fit, and what may wait below a node.
use Rattle.std.proofs.Common.{◌≡◌, ℕ, zero, suc, ◌+◌, ◌-◌, ◌*◌, ◌^◌, ◌≤◌, List, [], ◌∷◌, subst, arith}
use Rattle.std.proofs.Math.Nat.{mul-le-mul_left}
use Rattle.std.specs.List.{AllByRecursion}
use Rattle.ak_forest.specs.Numbers.{end}
use Rattle.ak_forest.proofs.Arith.{fan_pos, times_le, power_up, family_stop}
use Rattle.ak_inner.specs.References.{IsRef, AreRefs}
use Rattle.ak_inner.specs.declared.reference.Ref.{Ref}
use Rattle.ak_levels.specs.Entries.{IsTally}

power_some : (k : ℕ) → 1 ≤ 32 ^ k
power_some k = fan_pos 32 k (omega arith)

-- a number is no more than so many times it
pub number_fits : (n k most : ℕ) → n * 32 ^ k ≤ most → n ≤ most
number_fits n k most fits = omega (arith, mul-le-mul_left n (power_some k), fits)

pub above_fits : (n level most : ℕ) → 1 ≤ level → n * 32 ^ level ≤ most → n * 32 ≤ most
above_fits n zero most above fits = absurd (omega (arith, above))
above_fits n (suc k) most above fits = omega (arith, power_up 32 k n, number_fits (n * 32) k most (omega (arith, power_up 32 k n, fits)))

-- the references of a node are tallies
tallies_each : (level : ℕ) (rs : List Ref) → AllByRecursion (IsRef level) rs → AllByRecursion (IsTally (level - 1)) rs
tallies_each level [] each = tt
tallies_each level (r ∷ rs) each = (record { some = each.0.some; most = each.0.most; bounded = each.0.bounded }, tallies_each level rs each.1)

pub tallies_of : (level other : ℕ) (rs : List Ref) → other ≡ level → AreRefs other rs → AllByRecursion (IsTally (level - 1)) rs
tallies_of level other rs same are = tallies_each level rs (subst (λ (l : ℕ). AllByRecursion (IsRef l) rs) same are.each)

-- the children of a node begin no earlier and end where it does
pub children_begin : (level number n : ℕ) → 1 ≤ level → n ≤ 32 → number * 32 ^ level ≤ (suc number * 32 - n) * 32 ^ (level - 1)
children_begin zero number n above few = absurd (omega (arith, above))
children_begin (suc k) number n above few =
    let down : k ≡ suc k - 1 = omega arith in
    subst (λ (l : ℕ). number * 32 ^ suc k ≤ (suc number * 32 - n) * 32 ^ l) down
    (omega (arith, power_up 32 k number, times_le (number * 32) (suc number * 32 - n) (32 ^ k) (omega (arith, few))))

pub children_end : (level number n : ℕ) → 1 ≤ level → n ≤ 32 → ((suc number * 32 - n) + n) * 32 ^ (level - 1) ≡ end 32 level number
children_end zero number n above few = absurd (omega (arith, above))
children_end (suc k) number n above few =
    let down : k ≡ suc k - 1 = omega arith in
    subst (λ (l : ℕ). ((suc number * 32 - n) + n) * 32 ^ l ≡ end 32 (suc k) number) down (family_stop 32 k number n few)
