use Rattle.std.proofs.Common.{inl, inr, ℕ, suc, ◌≡◌, ◌+◌, ◌*◌, ◌/◌, ◌^◌, ◌<◌, ◌≤◌, subst, arith}
use Rattle.std.proofs.Math.Nat.{pow-le-pow_right}
use Rattle.std.proofs.Common.{mul-le-mul_right}
use Rattle.std.proofs.lemmas.Bool.{cases_lt}
use Rattle.ak_levels.proofs.Powers.{power_up}
use Rattle.ak_levels.proofs.levels.levels_in.Goals as goal

pub loop-levels-preserved : goal.loop-levels-preserved
loop-levels-preserved c =
    let n = c.loop-levels.levels in
    let left = c.loop-levels.left in
    let q : ℕ = left / 32 in
    let next : suc n ≡ n + 1 = omega arith in
    let more : (left + 1) * 32 ^ n ≤ (q + 1) * 32 * 32 ^ n = mul-le-mul_right (32 ^ n) (omega arith) in
    let below : c.args.leaves < (q + 1) * 32 ^ suc n = omega (arith, more, power_up n (q + 1), c.loop-levels.invariant.below) in
    record { few = omega arith; below = subst (λ (m : ℕ). c.args.leaves < (q + 1) * 32 ^ m) next below }

pub returns-else-left-gt0-clause-each : goal.returns-else-left-gt0-clause-each
returns-else-left-gt0-clause-each c k few used =
    let n = c.loop-levels.levels in
    let none : c.loop-levels.left ≡ 0 = omega arith in
    let below : c.args.leaves < (0 + 1) * 32 ^ n = subst (λ (left : ℕ). c.args.leaves < (left + 1) * 32 ^ n) none c.loop-levels.invariant.below in
    elim (cases_lt k n) [
      | inl less ↦ less
      | inr more ↦ let power : 32 ^ n ≤ 32 ^ k = pow-le-pow_right (omega arith) more in absurd (omega (arith, power, below, used))
    ]
