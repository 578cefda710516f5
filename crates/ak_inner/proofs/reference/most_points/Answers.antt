use Rattle.std.proofs.Common.{◌≡◌, ◌∙◌, ◌*◌, ◌^◌, ◌-◌, ℕ, zero, suc, refl, ap, arith}
use Rattle.std.proofs.lemmas.Nat.{shl_whole, pow-add}
use Rattle.std.proofs.Math.Nat.{pow-suc}
use Rattle.ak_inner.proofs.reference.most_points.Goals as goal

power : (m : ℕ) → 2 ^ (5 * m) ≡ 32 ^ m
power zero = refl
power (suc m) = ap (λ (n : ℕ). 2 ^ n) (omega arith) ∙ pow-add 2 5 (5 * m) ∙ omega (arith, power m, pow-suc 32 m)

pub returns : goal.returns
returns c =
    shl_whole 2016 11 (5 * (c.args.level - 1)) 64 (omega arith) (omega (arith, c.requires.most)) ∙ ap (λ (n : ℕ). 2016 * n) (power (c.args.level - 1))
