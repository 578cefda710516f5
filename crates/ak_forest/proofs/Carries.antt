-- What closing a leaf pushes and empties.
use Rattle.std.proofs.Common.{◌≡◌, ◌≢◌, inl, inr, ℕ, zero, suc, ◌+◌, ◌-◌, ◌*◌, ◌/◌, ◌%◌, ◌^◌, ◌<◌, ◌≤◌, max, List, [], ◌∷◌, ◌++◌, length, refl, sym, ◌∙◌, ap, ap₂, arith, div-add-mod', mod-lt, suc-mul, zero-mul}
use Rattle.std.proofs.Math.Nat.{pow-zero}
use Rattle.std.proofs.lemmas.Nat.{div-mul-add, mod-mul-add}
use Rattle.std.proofs.lemmas.Bool.{cases_lt, cases_eq}
use Rattle.std.proofs.lemmas.Bool.Decides.{nat_tests}
use Rattle.ak_forest.specs.Numbers.{made, digit, between, carry_to, carry, waiting}
use Rattle.ak_forest.proofs.Arith.{fan_pos, made_split, between_append, between_none, between_one, power_up, made_mono, made_none, length_span}

-- a node is closed exactly where its number of leaves divides
pub closes : (fan k m : ℕ) → 0 < fan → suc m % fan ^ k ≡ 0 → made fan k (suc m) ≡ suc (made fan k m)
closes fan k m p h =
    let d = fan ^ k in
    let q = suc m / d in
    let split : q * d + suc m % d ≡ suc m = div-add-mod' (suc m) d in
    let pos : 0 < d = fan_pos fan k p in
    go q refl (omega (arith, split, h))
  where
    go : (q : ℕ) → suc m / fan ^ k ≡ q → q * fan ^ k ≡ suc m → made fan k (suc m) ≡ suc (made fan k m)
    go zero is all = absurd (omega (arith, all, zero-mul (fan ^ k)))
    go (suc q) is all =
        let pos : 0 < fan ^ k = fan_pos fan k p in
        let m_is : m ≡ q * fan ^ k + (fan ^ k - 1) = omega (arith, all, suc-mul q (fan ^ k), pos) in
        let old : m / fan ^ k ≡ q = ap (λ (x : ℕ). x / fan ^ k) m_is ∙ div-mul-add q (fan ^ k) (fan ^ k - 1) (omega (arith, pos)) in
        is ∙ ap suc (sym old)

pub stays : (fan k m : ℕ) → 0 < fan → suc m % fan ^ k ≢ 0 → made fan k (suc m) ≡ made fan k m
stays fan k m p h =
    let d = fan ^ k in
    let q = suc m / d in
    let r = suc m % d in
    let split : q * d + r ≡ suc m = div-add-mod' (suc m) d in
    let small : r < d = mod-lt (suc m) (fan_pos fan k p) in
    let m_is : m ≡ q * d + (r - 1) = omega (arith, split, h) in
    sym (ap (λ (x : ℕ). x / d) m_is ∙ div-mul-add q d (r - 1) (omega (arith, small)))

-- a power that divides, and the powers below it
pub divides_less : (fan k n : ℕ) → 0 < fan → n % fan ^ suc k ≡ 0 → n % fan ^ k ≡ 0
divides_less fan k n p h =
    let q = n / fan ^ suc k in
    let split : q * fan ^ suc k + n % fan ^ suc k ≡ n = div-add-mod' n (fan ^ suc k) in
    let n_is : n ≡ q * fan * fan ^ k + 0 = omega (arith, split, h, power_up fan k q) in
    ap (λ (x : ℕ). x % fan ^ k) n_is ∙ mod-mul-add (q * fan) (fan ^ k) 0 (fan_pos fan k p)

carry_one : (fan top m : ℕ) → suc m % fan ^ suc top ≡ 0 → carry_to fan (suc top) m ≡ suc (carry_to fan top m)
carry_one fan top m h = grind (arith, nat_tests, h)

carry_zero : (fan top m : ℕ) → suc m % fan ^ suc top ≢ 0 → carry_to fan (suc top) m ≡ carry_to fan top m
carry_zero fan top m h = grind (arith, nat_tests, h)

pub carry_most : (fan top m : ℕ) → carry_to fan top m ≤ top
carry_most fan zero m = omega arith
carry_most fan (suc top) m = elim (cases_eq (suc m % fan ^ suc top) 0) [
  | inl whole ↦ omega (arith, carry_one fan top m whole, carry_most fan top m)
  | inr part ↦ omega (arith, carry_zero fan top m part, carry_most fan top m)
]

pub carry_takes : (fan top m k : ℕ) → 0 < fan → k ≤ top → suc m % fan ^ k ≡ 0 → k ≤ carry_to fan top m
carry_takes fan zero m k p below h = omega arith
carry_takes fan (suc top) m k p below h = elim (cases_eq (suc m % fan ^ suc top) 0) [
  | inl whole ↦
      let all : top ≤ carry_to fan top m = carry_takes fan top m top p (omega arith) (divides_less fan top (suc m) p whole) in
      omega (arith, carry_one fan top m whole, all, below)
  | inr part ↦ elim (cases_eq k (suc top)) [
    | inl last ↦ absurd (part (ap (λ (x : ℕ). suc m % fan ^ x) (sym last) ∙ h))
    | inr less ↦ let rest : k ≤ carry_to fan top m = carry_takes fan top m k p (omega (arith, less, below)) h in omega (arith, carry_zero fan top m part, rest)
  ]
]

pub carry_divides : (fan top m k : ℕ) → 0 < fan → k ≤ carry_to fan top m → suc m % fan ^ k ≡ 0
carry_divides fan zero m k p h =
    let none : 0 ≡ k = omega (arith, h) in
    let small : suc m % fan ^ 0 < fan ^ 0 = mod-lt (suc m) (fan_pos fan 0 p) in
    ap (λ (x : ℕ). suc m % fan ^ x) (sym none) ∙ omega (arith, small, pow-zero fan)
carry_divides fan (suc top) m k p h = elim (cases_eq (suc m % fan ^ suc top) 0) [
  | inl whole ↦ elim (cases_lt (carry_to fan top m) k) [
    | inl last ↦
        let all : top ≤ carry_to fan top m = carry_takes fan top m top p (omega arith) (divides_less fan top (suc m) p whole) in
        let is : suc top ≡ k = omega (arith, last, h, carry_one fan top m whole, all, carry_most fan top m) in
        ap (λ (x : ℕ). suc m % fan ^ x) (sym is) ∙ whole
    | inr less ↦ carry_divides fan top m k p less
  ]
  | inr part ↦ carry_divides fan top m k p (omega (arith, h, carry_zero fan top m part))
]

-- the pending nodes before and after a close, by number
pub made_at : (fan m k : ℕ) → 0 < fan → k ≤ carry fan m → made fan k (suc m) ≡ suc (made fan k m)
made_at fan m k p h = closes fan k m p (carry_divides fan 10 m k p h)

pub made_past : (fan m k : ℕ) → 0 < fan → k ≤ 10 → carry fan m < k → made fan k (suc m) ≡ made fan k m
made_past fan m k p low h = stays fan k m p (λ d. let le : k ≤ carry fan m = carry_takes fan 10 m k p low d in absurd (omega (arith, le, h)))

-- a level below the carry is full with the reference that is pushed, and it is emptied
pub level_full : (fan m k : ℕ) → 0 < fan → k < carry fan m → made fan k (suc m) ≡ suc (made fan (suc k) m) * fan
level_full fan m k p h =
    let whole : suc m % fan ^ suc k ≡ 0 = carry_divides fan 10 m (suc k) p h in
    let q = suc m / fan ^ suc k in
    let split : q * fan ^ suc k + suc m % fan ^ suc k ≡ suc m = div-add-mod' (suc m) (fan ^ suc k) in
    let n_is : suc m ≡ q * fan * fan ^ k + 0 = omega (arith, split, whole, power_up fan k q) in
    let up : q ≡ suc (made fan (suc k) m) = made_at fan m (suc k) p h in
    ap (λ (x : ℕ). x / fan ^ k) n_is ∙ div-mul-add (q * fan) (fan ^ k) 0 (fan_pos fan k p) ∙ ap (λ (x : ℕ). x * fan) up

pub waiting_empty : (fan base m k : ℕ) → 0 < fan → k < carry fan m → waiting fan base (suc m) k ≡ []
waiting_empty fan base m k p h =
    let full = level_full fan m k p h in
    let up = made_at fan m (suc k) p h in
    let over : made fan (suc k) (suc m) * fan ≡ suc (made fan (suc k) m) * fan = ap (λ (x : ℕ). x * fan) up in
    between_none (max (made fan k base) (made fan (suc k) (suc m) * fan)) (made fan k (suc m)) (omega (arith, full, over))

pub waiting_pushed : (fan base m : ℕ) → 0 < fan → base ≤ m → carry fan m < 10 →
    waiting fan base (suc m) (carry fan m) ≡ waiting fan base m (carry fan m) ++ made fan (carry fan m) m ∷ []
waiting_pushed fan base m p fits top =
    let k = carry fan m in
    let here : made fan k (suc m) ≡ suc (made fan k m) = made_at fan m k p (omega arith) in
    let above : made fan (suc k) (suc m) ≡ made fan (suc k) m = made_past fan m (suc k) p top (omega arith) in
    let split : made fan (suc k) m * fan + digit fan k m ≡ made fan k m = made_split fan k m in
    let start = max (made fan k base) (made fan (suc k) m * fan) in
    let begun : start ≤ made fan k m = omega (arith, split, made_mono fan k base m p fits) in
    ap₂ (λ (x y : ℕ). between (max (made fan k base) (x * fan)) y) above here
    ∙ sym (ap (λ (l : List ℕ). between start (made fan k m) ++ l) (sym (between_one (made fan k m))) ∙ between_append start (made fan k m) (suc (made fan k m)) begun (omega arith))

pub waiting_same : (fan base m k : ℕ) → 0 < fan → k < 10 → carry fan m < k → waiting fan base (suc m) k ≡ waiting fan base m k
waiting_same fan base m k p top h =
    let here : made fan k (suc m) ≡ made fan k m = made_past fan m k p (omega arith) h in
    let above : made fan (suc k) (suc m) ≡ made fan (suc k) m = made_past fan m (suc k) p top (omega (arith, h)) in
    ap₂ (λ (x y : ℕ). between (max (made fan k base) (x * fan)) y) above here

-- where nothing is dead a level has its digit
pub waiting_digit : (fan leaves k : ℕ) → 0 < fan → length (waiting fan 0 leaves k) ≡ digit fan k leaves
waiting_digit fan leaves k p =
    let split : made fan (suc k) leaves * fan + digit fan k leaves ≡ made fan k leaves = made_split fan k leaves in
    let none : made fan k 0 ≡ 0 = made_none fan k 0 p (fan_pos fan k p) in
    length_span (max (made fan k 0) (made fan (suc k) leaves * fan)) (made fan k leaves - max (made fan k 0) (made fan (suc k) leaves * fan)) ∙ omega (arith, split, none)
