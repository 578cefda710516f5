-- The digits in base 32 of a number, and of the one after it.
use Rattle.std.proofs.Common.{◌≡◌, ◌≢◌, inl, inr, ℕ, zero, suc, ◌+◌, ◌-◌, ◌*◌, ◌/◌, ◌%◌, ◌^◌, ◌<◌, ◌≤◌, refl, sym, ◌∙◌, ap, arith, div-add-mod', mod-lt}
use Rattle.std.proofs.lemmas.Nat.{div-mul-add, mod-mul-add}
use Rattle.std.proofs.lemmas.Bool.{cases_lt, cases_eq}
use Rattle.ak_levels.specs.Carries.{carry_of}
use Rattle.ak_levels.proofs.Powers.{power_pos, power_up, most_powers, carry_divides, carry_counts}

pub carry_most : (m : ℕ) → carry_of m ≤ 10
unfolding carry_of
carry_most m = most_powers 10 (suc m)

whole_at : (m : ℕ) → suc m % 32 ^ carry_of m ≡ 0
whole_at m =
    let next : suc m ≡ m + 1 = omega arith in
    ap (λ (x : ℕ). x % 32 ^ carry_of m) next ∙ carry_divides m (carry_of m) (carry_of m) refl (carry_most m) (omega arith)

part_past : (m k : ℕ) → k ≤ 10 → carry_of m < k → suc m % 32 ^ k ≢ 0
part_past m k top past whole =
    let next : m + 1 ≡ suc m = omega arith in
    let few : k ≤ carry_of m = carry_counts m (carry_of m) k refl top (ap (λ (x : ℕ). x % 32 ^ k) next ∙ whole) in
    omega (arith, few, past)

-- a number that the divisor doesn't divide has the quotient of the one before it
quotient_stays : (m p : ℕ) → 0 < p → suc m % p ≢ 0 → suc m / p ≡ m / p
quotient_stays m p pos part =
    let split : suc m / p * p + suc m % p ≡ suc m = div-add-mod' (suc m) p in
    let small : suc m % p < p = mod-lt (suc m) pos in
    let m_is : m ≡ suc m / p * p + (suc m % p - 1) = omega (arith, split, part) in
    sym (ap (λ (x : ℕ). x / p) m_is ∙ div-mul-add (suc m / p) p (suc m % p - 1) (omega (arith, small, pos)))

-- a number that it divides has a quotient more
quotient_more : (m p : ℕ) → 0 < p → suc m % p ≡ 0 → suc m / p ≡ suc (m / p)
quotient_more m p pos whole =
    let split : suc m / p * p + suc m % p ≡ suc m = div-add-mod' (suc m) p in
    go (suc m / p) (omega (arith, split, whole))
  where
    go : (q : ℕ) → q * p ≡ suc m → q ≡ suc (m / p)
    go zero is = absurd (omega (arith, is))
    go (suc q) is =
        let m_is : m ≡ q * p + (p - 1) = omega (arith, is, pos) in
        ap suc (sym (ap (λ (x : ℕ). x / p) m_is ∙ div-mul-add q p (p - 1) (omega (arith, pos))))

-- above the carry the digits stay
pub digit_past : (m k : ℕ) → k ≤ 10 → carry_of m < k → suc m / 32 ^ k % 32 ≡ m / 32 ^ k % 32
digit_past m k top past = ap (λ (x : ℕ). x % 32) (quotient_stays m (32 ^ k) (power_pos k) (part_past m k top past))

-- the digit at the carry isn't 0 after the step
digit_some : (m : ℕ) → m < 2 ^ 53 → suc m / 32 ^ carry_of m % 32 ≢ 0
digit_some m small none = elim (cases_lt (carry_of m) 10) [
  | inl below ↦
      let k = carry_of m in
      let q = suc m / 32 ^ k in
      let split : q * 32 ^ k + suc m % 32 ^ k ≡ suc m = div-add-mod' (suc m) (32 ^ k) in
      let tens : q / 32 * 32 + q % 32 ≡ q = div-add-mod' q 32 in
      let same : q / 32 * 32 ≡ q = omega (arith, tens, none) in
      let is : suc m ≡ q / 32 * 32 ^ suc k + 0 = omega (arith, split, whole_at m, power_up k (q / 32), ap (λ (x : ℕ). x * 32 ^ k) same) in
      part_past m (suc k) (omega (arith, below)) (omega arith) (ap (λ (x : ℕ). x % 32 ^ suc k) is ∙ mod-mul-add (q / 32) (32 ^ suc k) 0 (power_pos (suc k)))
  | inr top ↦
      let ten : carry_of m ≡ 10 = omega (arith, top, carry_most m) in
      let q = suc m / 32 ^ carry_of m in
      let split : q * 32 ^ carry_of m + suc m % 32 ^ carry_of m ≡ suc m = div-add-mod' (suc m) (32 ^ carry_of m) in
      let is : q * 32 ^ 10 ≡ suc m = omega (arith, split, whole_at m, ap (λ (x : ℕ). q * 32 ^ x) ten) in
      omega (arith, is, small, none)
]

-- at the carry the digit is one more
pub digit_at : (m : ℕ) → m < 2 ^ 53 → suc m / 32 ^ carry_of m % 32 ≡ suc (m / 32 ^ carry_of m % 32)
digit_at m small =
    let q = m / 32 ^ carry_of m in
    let more : suc m / 32 ^ carry_of m ≡ suc q = quotient_more m (32 ^ carry_of m) (power_pos (carry_of m)) (whole_at m) in
    let some : suc q % 32 ≢ 0 = λ none. digit_some m small (ap (λ (x : ℕ). x % 32) more ∙ none) in
    ap (λ (x : ℕ). x % 32) more ∙ step q some
  where
    step : (q : ℕ) → suc q % 32 ≢ 0 → suc q % 32 ≡ suc (q % 32)
    step q some = omega (arith, some)

-- a power of a level above the carry that the next number reaches was reached
pub reached_past : (m k : ℕ) → k ≤ 10 → carry_of m < k → 32 ^ k ≤ suc m → 32 ^ k ≤ m
reached_past m k top past reached = elim (cases_eq (32 ^ k) (suc m)) [
  | inl same ↦
      let is : suc m ≡ 1 * 32 ^ k + 0 = omega (arith, same) in
      absurd (part_past m k top past (ap (λ (x : ℕ). x % 32 ^ k) is ∙ mod-mul-add 1 (32 ^ k) 0 (power_pos k)))
  | inr other ↦ omega (arith, reached, other)
]
