use Rattle.std.proofs.Common.{rules, inl, inr, ◌≡◌, ◌+◌, ◌-◌, ◌<◌, ◌≤◌, ◌^◌, ◌↔◌, ℕ, suc, ap, sym, subst, arith}
use Rattle.std.proofs.Math.Nat.{pow-suc, pow-le-pow_right}
use Rattle.std.proofs.lemmas.Bool.{cases_lt}
use Rattle.std.proofs.Math.ListN.{get_or-map}
use Rattle.ak_base.specs.declared.point.Addr.{Addr}
use Rattle.ak_meta.specs.Contents.{rescue_at}
use Rattle.ak_meta.specs.Leaves.{address_at}
use Rattle.ak_meta.proofs.reading.are_rescues.Goals as goal

pub overflow_mul-least : goal.overflow_mul-least
overflow_mul-least c =
    let level = c.loop-level.level in
    let most : 32 ^ level ≤ 32 ^ 10 = pow-le-pow_right {n = 32} (omega arith) {i = level} {j = 10} (omega (arith, c.loop-level-test.true)) in
    omega (arith, most, c.loop-level.invariant.least)

pub loop-level-preserved : goal.loop-level-preserved
loop-level-preserved c =
    let level = c.loop-level.level in
    let rescue = c.args.rescue.now in
    let leaves = c.args.leaves in
    let step : 32 ^ (level + 1) ≡ 32 ^ suc level = ap (λ (k : ℕ). 32 ^ k) (omega arith) in
    let held = c.is_rescue.ensures.0 (search rules) in
    let here : (rescue_at rescue level ≡ 2 ^ 64 - 1) ↔ (leaves < 32 ^ level) = subst (λ (n : ℕ). (rescue_at rescue level ≡ 2 ^ 64 - 1) ↔ (leaves < n)) c.loop-level.invariant.least
    (subst (λ (m : ℕ). (m ≡ 2 ^ 64 - 1) ↔ (leaves < c.loop-level.least)) (sym (get_or-map (λ (a : Addr). a.0) rescue level (address_at 0))) held) in
    record {
      least = omega (arith, step, pow-suc 32 level, c.loop-level.invariant.least);
      below = λ k h. elim (cases_lt k level) [
        | inl less ↦ c.loop-level.invariant.below k less
        | inr last ↦ subst (λ (j : ℕ). (rescue_at rescue j ≡ 2 ^ 64 - 1) ↔ (leaves < 32 ^ j)) (omega (arith, last, h)) here
      ];
    }
