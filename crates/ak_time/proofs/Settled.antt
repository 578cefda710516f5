-- What holds or doesn't, and what is read as one thing at most.
use Rattle.std.proofs.Common.{◌≡◌, ◌↔◌, ◌⊎◌, inl, inr, ℕ, suc, ◌<◌, ◌≤◌, ℤ, ◌≤ℤ◌, List, [], ◌∷◌, length, Option, Some, None, refl, ap, subst, arith}
use Rattle.std.specs.Char.{digit_value}
use Rattle.std.specs.Str.Parse.{AllDigits, IsNumeral}
use Rattle.std.proofs.lemmas.Bool.{cases_lt}
use Rattle.std.proofs.lemmas.Int.{by_lt_z}
use Rattle.jiff_core.specs.Calendar.{IsBetween}
use Rattle.jiff_core.proofs.SignedLemmas.{signed_arith}
use Rattle.ak_base.proofs.Decimals.{IsFront}

abbrev pub Decided : Type 0 → Type 0
Decided P = P ⊎ (¬ P)

pub both : {P Q : Type 0} → Decided P → Decided Q → Decided (P × Q)
both (inl p) (inl q) = inl (p, q)
both (inl p) (inr never) = inr (λ h. never h.1)
both (inr none) q = inr (λ h. none h.0)

pub likewise : {P Q : Type 0} → (P → Q) → (Q → P) → Decided P → Decided Q
likewise to from (inl p) = inl (to p)
likewise to from (inr none) = inr (λ q. none (from q))

-- There is one that has the property, and no other; or there is none.
abbrev pub Settled : {A : Type 0} → (A → Type 0) → Type 0
Settled {A} P = (o : Option A) × ((x : A) → (o ≡ Some x) ↔ P x)

pub no_other : {A : Type 0} (P : A → Type 0) → Settled P → (x y : A) → P x → P y → x ≡ y
no_other P s x y p q =
    let first : s.0 ≡ Some x = (s.1 x).1 p in
    let second : s.0 ≡ Some y = (s.1 y).1 q in
    cc

found : {A : Type 0} (P : A → Type 0) (o : Option A) → ((x : A) → (o ≡ Some x) ↔ P x) → ((x : A) × P x) ⊎ ((x : A) → ¬ (P x))
found P None f = inr (λ x p. let is : None ≡ Some x = (f x).1 p in cc)
found P (Some x) f = inl (x, (f x).0 refl)

pub some_or_none : {A : Type 0} (P : A → Type 0) → Settled P → ((x : A) × P x) ⊎ ((x : A) → ¬ (P x))
some_or_none P s = found P s.0 s.1

pub none_settled : {A : Type 0} (P : A → Type 0) → ((x : A) → ¬ (P x)) → Settled P
none_settled P never = (None, λ x. (λ e. cc, λ p. absurd (never x p)))

pub one_settled : {A : Type 0} (P : A → Type 0) (x : A) → P x → ((y : A) → P y → x ≡ y) → Settled P
one_settled P x p only = (Some x, λ y. (λ e. let same : x ≡ y = cc in subst P same p, λ q. ap (λ z. Some z) (only y q)))

-- ---- Digits

pub below_cases : (m n : ℕ) → Decided (m < n)
below_cases m n = elim (cases_lt m n) [ inl less ↦ inl less | inr more ↦ inr (λ h. omega arith) ]

pub digits_cases : (ds : List ℕ) → Decided (AllDigits 10 ds)
digits_cases [] = inl tt
digits_cases (d ∷ ds) = both (below_cases (digit_value d) 10) (digits_cases ds)

pub most_cases : (m n : ℕ) → Decided (m ≤ n)
most_cases m n = elim (cases_lt n m) [ inl less ↦ inr (λ h. omega arith) | inr more ↦ inl more ]

pub numeral_cases : (ds : List ℕ) → Decided (IsNumeral 10 ds)
numeral_cases ds = both (below_cases 0 (length ds)) (digits_cases ds)

-- the digits at the front of a text
pub front_of : (text : List ℕ) → (i : ℕ) × IsFront text i × (i ≤ length text)
front_of [] = (0, record { digits = tt; end = λ h. absurd (omega arith) }, omega arith)
front_of (c ∷ cs) = elim (cases_lt (digit_value c) 10) [
  | inl low ↦ (let rest = front_of cs in (suc rest.0, record { digits = (low, rest.1.digits); end = λ h. rest.1.end (omega arith) }, omega (arith, rest.2)))
  | inr high ↦ (0, record { digits = tt; end = λ h. high }, omega arith)
]

-- ---- Signed numbers

pub most_cases_z : (a b : ℤ) → Decided (a ≤ℤ b)
most_cases_z a b = by_lt_z b a (λ less. inr (λ h. omega (arith, signed_arith, less, h))) (λ more. inl more)

pub between_cases : (low high z : ℤ) → Decided (IsBetween low high z)
between_cases low high z = both (most_cases_z low z) (most_cases_z z high)
