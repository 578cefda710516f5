-- The powers of 32 that divide a number, and the loop that divides.
use Rattle.std.proofs.Common.{◌≡◌, ◌≢◌, inl, inr, ℕ, zero, suc, ◌+◌, ◌*◌, ◌/◌, ◌%◌, ◌^◌, ◌<◌, ◌≤◌, sym, ◌∙◌, ap, arith, pow-suc, mul_comm, mul_assoc, div-add-mod', mod-lt}
use Rattle.std.proofs.Math.Nat.{pow-zero}
use Rattle.std.proofs.lemmas.Nat.{div-mul-add, mod-mul-add}
use Rattle.std.proofs.lemmas.Bool.{cases_lt, cases_eq}
use Rattle.std.proofs.lemmas.Bool.Decides.{nat_tests}
use Rattle.ak_levels.specs.Carries.{dividing_powers, carry_of}

pub power_pos : (k : ℕ) → 0 < 32 ^ k
power_pos zero = omega (arith, pow-zero 32)
power_pos (suc k) = omega (arith, pow-suc 32 k, power_pos k)

pub power_up : (k q : ℕ) → q * 32 ^ suc k ≡ q * 32 * 32 ^ k
power_up k q = ap (λ (x : ℕ). q * x) (pow-suc 32 k ∙ mul_comm (32 ^ k) 32) ∙ sym (mul_assoc q 32 (32 ^ k))

-- where a power divides, the one below it does
divides_less : (k n : ℕ) → n % 32 ^ suc k ≡ 0 → n % 32 ^ k ≡ 0
divides_less k n h =
    let q = n / 32 ^ suc k in
    let split : q * 32 ^ suc k + n % 32 ^ suc k ≡ n = div-add-mod' n (32 ^ suc k) in
    let n_is : n ≡ q * 32 * 32 ^ k + 0 = omega (arith, split, h, power_up k q) in
    ap (λ (x : ℕ). x % 32 ^ k) n_is ∙ mod-mul-add (q * 32) (32 ^ k) 0 (power_pos k)

one_more : (top n : ℕ) → n % 32 ^ suc top ≡ 0 → dividing_powers (suc top) n ≡ suc (dividing_powers top n)
one_more top n h = grind (arith, nat_tests, h)

no_more : (top n : ℕ) → n % 32 ^ suc top ≢ 0 → dividing_powers (suc top) n ≡ dividing_powers top n
no_more top n h = grind (arith, nat_tests, h)

pub most_powers : (top n : ℕ) → dividing_powers top n ≤ top
most_powers zero n = omega arith
most_powers (suc top) n = elim (cases_eq (n % 32 ^ suc top) 0) [
  | inl whole ↦ omega (arith, one_more top n whole, most_powers top n)
  | inr part ↦ omega (arith, no_more top n part, most_powers top n)
]

-- a power that divides is counted, with all below it
counts : (top n k : ℕ) → k ≤ top → n % 32 ^ k ≡ 0 → k ≤ dividing_powers top n
counts zero n k below h = omega arith
counts (suc top) n k below h = elim (cases_eq (n % 32 ^ suc top) 0) [
  | inl whole ↦
      let all : top ≤ dividing_powers top n = counts top n top (omega arith) (divides_less top n whole) in
      omega (arith, one_more top n whole, all, below)
  | inr part ↦ elim (cases_eq k (suc top)) [
    | inl last ↦ absurd (part (ap (λ (x : ℕ). n % 32 ^ x) (sym last) ∙ h))
    | inr less ↦ let rest : k ≤ dividing_powers top n = counts top n k (omega (arith, less, below)) h in omega (arith, no_more top n part, rest)
  ]
]

-- what is counted divides
divides : (top n k : ℕ) → k ≤ dividing_powers top n → n % 32 ^ k ≡ 0
divides zero n k h =
    let none : 0 ≡ k = omega (arith, h) in
    let small : n % 32 ^ 0 < 32 ^ 0 = mod-lt n (power_pos 0) in
    ap (λ (x : ℕ). n % 32 ^ x) (sym none) ∙ omega (arith, small, pow-zero 32)
divides (suc top) n k h = elim (cases_eq (n % 32 ^ suc top) 0) [
  | inl whole ↦ elim (cases_lt (dividing_powers top n) k) [
    | inl last ↦
        let all : top ≤ dividing_powers top n = counts top n top (omega arith) (divides_less top n whole) in
        let is : suc top ≡ k = omega (arith, last, h, one_more top n whole, all, most_powers top n) in
        ap (λ (x : ℕ). n % 32 ^ x) (sym is) ∙ whole
    | inr less ↦ divides top n k less
  ]
  | inr part ↦ divides top n k (omega (arith, h, no_more top n part))
]

-- what is left, times the power so far, is m + 1
pub divided : (m k left : ℕ) → left % 32 ≡ 0 → left * 32 ^ k ≡ m + 1 → left / 32 * 32 ^ (k + 1) ≡ m + 1
divided m k left whole is =
    let more : k + 1 ≡ suc k = omega arith in
    let split : left / 32 * 32 + left % 32 ≡ left = div-add-mod' left 32 in
    let same : left / 32 * 32 ≡ left = omega (arith, split, whole) in
    ap (λ (x : ℕ). left / 32 * 32 ^ x) more ∙ power_up k (left / 32) ∙ ap (λ (x : ℕ). x * 32 ^ k) same ∙ is

pub carry_is : (m k left : ℕ) → k ≤ 10 → left * 32 ^ k ≡ m + 1 → (k < 10 → left % 32 ≢ 0) → k ≡ carry_of m
unfolding carry_of
carry_is m k left top is stop =
    let here : suc m % 32 ^ k ≡ 0 = (let e : suc m ≡ left * 32 ^ k + 0 = omega (arith, is) in ap (λ (x : ℕ). x % 32 ^ k) e) ∙ mod-mul-add left (32 ^ k) 0 (power_pos k) in
    let reached : k ≤ carry_of m = counts 10 (suc m) k top here in
    elim (cases_lt k (carry_of m)) [
      | inl more ↦
          let most : carry_of m ≤ 10 = most_powers 10 (suc m) in
          let next : suc m % 32 ^ suc k ≡ 0 = divides 10 (suc m) (suc k) more in
          let q = suc m / 32 ^ suc k in
          let split : q * 32 ^ suc k + suc m % 32 ^ suc k ≡ suc m = div-add-mod' (suc m) (32 ^ suc k) in
          let e : left * 32 ^ k + 0 ≡ q * 32 * 32 ^ k + 0 = omega (arith, split, next, power_up k q, is) in
          let pos : 0 < 32 ^ k = power_pos k in
          let left_is : left ≡ q * 32 = sym (div-mul-add left (32 ^ k) 0 pos) ∙ ap (λ (x : ℕ). x / 32 ^ k) e ∙ div-mul-add (q * 32) (32 ^ k) 0 pos in
          absurd (stop (omega (arith, more, most)) (omega (arith, left_is)))
      | inr all ↦ omega (arith, reached, all)
    ]

-- the powers up to the carry are those that divide
pub carry_divides : (m c k : ℕ) → c ≡ carry_of m → k ≤ 10 → k ≤ c → (m + 1) % 32 ^ k ≡ 0
unfolding carry_of
carry_divides m c k is top h =
    let next : m + 1 ≡ suc m = omega arith in
    let few : k ≤ carry_of m = omega (arith, is, h) in
    ap (λ (x : ℕ). x % 32 ^ k) next ∙ divides 10 (suc m) k few

pub carry_counts : (m c k : ℕ) → c ≡ carry_of m → k ≤ 10 → (m + 1) % 32 ^ k ≡ 0 → k ≤ c
unfolding carry_of
carry_counts m c k is top h =
    let next : suc m ≡ m + 1 = omega arith in
    let few : k ≤ carry_of m = counts 10 (suc m) k top (ap (λ (x : ℕ). x % 32 ^ k) next ∙ h) in
    omega (arith, is, few)
