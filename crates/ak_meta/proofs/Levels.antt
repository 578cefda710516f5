-- Which powers of 32 divide a number.
use Rattle.std.proofs.Common.{◌≡◌, ℕ, suc, ◌+◌, ◌-◌, ◌*◌, ◌/◌, ◌%◌, ◌^◌, ◌≤◌, ◌∙◌, refl, sym, ap, arith, div-add-mod'}
use Rattle.std.proofs.Math.Nat.{mul-add-mod_self_right}
use Rattle.std.proofs.lemmas.Nat.{pow-add}
use Rattle.ak_levels.specs.Carries.{carry_of}
use Rattle.ak_levels.proofs.Powers.{most_powers}
use Rattle.ak_levels.proofs.Powers.{carry_divides as divides, carry_counts as counts}

next : (m : ℕ) → m + 1 ≡ suc m
next m = omega arith

pub carry_most : (m : ℕ) → carry_of m ≤ 10
unfolding carry_of
carry_most m = most_powers 10 (suc m)

pub carry_takes : (m k : ℕ) → k ≤ 10 → suc m % 32 ^ k ≡ 0 → k ≤ carry_of m
carry_takes m k few h = counts m (carry_of m) k refl few (ap (λ (x : ℕ). x % 32 ^ k) (next m) ∙ h)

pub carry_divides : (m k : ℕ) → k ≤ carry_of m → suc m % 32 ^ k ≡ 0
carry_divides m k h = ap (λ (x : ℕ). x % 32 ^ k) (sym (next m)) ∙ divides m (carry_of m) k refl (omega (arith, h, carry_most m)) h

-- a multiple of a power more leaves what is left by that power
more_times : (q r k rest : ℕ) → suc (q * (32 ^ rest * 32 ^ k) + r) % 32 ^ k ≡ suc r % 32 ^ k
more_times q r k rest =
    let p = 32 ^ k in
    let e : suc (q * (32 ^ rest * p) + r) ≡ q * 32 ^ rest * p + suc r = grind arith in
    ap (λ (x : ℕ). x % p) e ∙ mul-add-mod_self_right (q * 32 ^ rest) p (suc r)

-- what is left by 32 ^ 10 is left by each power below
same_rest : (m k : ℕ) → k ≤ 10 → suc m % 32 ^ k ≡ suc (m % 2 ^ 50) % 32 ^ k
same_rest m k few =
    let rest = 10 - k in
    let all : rest + k ≡ 10 = omega (arith, few) in
    let whole : 32 ^ rest * 32 ^ k ≡ 2 ^ 50 = sym (pow-add 32 rest k) ∙ ap (λ (x : ℕ). 32 ^ x) all in
    let split : m / 2 ^ 50 * 2 ^ 50 + m % 2 ^ 50 ≡ m = div-add-mod' m (2 ^ 50) in
    ap (λ (x : ℕ). suc x % 32 ^ k) (sym split ∙ ap (λ (w : ℕ). m / 2 ^ 50 * w + m % 2 ^ 50) (sym whole)) ∙ more_times (m / 2 ^ 50) (m % 2 ^ 50) k rest

-- the rest by 32 ^ 10 fills as many levels
pub carry_rest : (m : ℕ) → carry_of (m % 2 ^ 50) ≡ carry_of m
carry_rest m =
    let r = m % 2 ^ 50 in
    let a = carry_of r in
    let b = carry_of m in
    let up : a ≤ b = carry_takes m a (carry_most r) (same_rest m a (carry_most r) ∙ carry_divides r a (omega arith)) in
    let down : b ≤ a = carry_takes r b (carry_most m) (sym (same_rest m b (carry_most m)) ∙ carry_divides m b (omega arith)) in
    omega (arith, up, down)
