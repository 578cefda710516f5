-- What holds or doesn't.
use Rattle.std.proofs.Common.{◌≡◌, ◌≢◌, ℕ, ◌≤◌, ◌⊎◌, inl, inr, List, [], ◌∷◌, ◌++◌, ap, refl, arith}
use Rattle.std.specs.List.{AllByRecursion}
use Rattle.std.proofs.lemmas.Bool.{cases_eq, cases_lt}

abbrev pub Decided : Type 0 → Type 0
Decided P = P ⊎ ¬ (P)

pub either_cases : {P Q : Type 0} → Decided P → Decided Q → Decided (P ⊎ Q)
either_cases (inl p) q = inl (inl p)
either_cases (inr none) (inl q) = inl (inr q)
either_cases (inr none) (inr never) = inr (λ h. elim h [ inl p ↦ none p | inr q ↦ never q ])

pub both_cases : {P Q : Type 0} → Decided P → Decided Q → Decided (P × Q)
both_cases (inl p) (inl q) = inl (p, q)
both_cases (inl p) (inr never) = inr (λ h. never h.1)
both_cases (inr none) q = inr (λ h. none h.0)

pub at_most_cases : (a b : ℕ) → Decided (a ≤ b)
at_most_cases a b = elim (cases_lt b a) [ inl lt ↦ inr (λ h. omega arith) | inr le ↦ inl le ]

pub all_cases : {X : Type 0} (P : X → Type 0) → ((x : X) → Decided (P x)) → (xs : List X) → Decided (AllByRecursion P xs)
all_cases P each [] = inl tt
all_cases P each (x ∷ xs) = both_cases (each x) (all_cases P each xs)

pub same_cases : (xs ys : List ℕ) → Decided (xs ≡ ys)
same_cases [] [] = inl refl
same_cases [] (y ∷ ys) = inr (λ e. cc)
same_cases (x ∷ xs) [] = inr (λ e. cc)
same_cases (x ∷ xs) (y ∷ ys) = elim (both_cases (cases_eq x y) (same_cases xs ys)) [
  | inl h ↦ (let head : x ≡ y = h.0 in let tail : xs ≡ ys = h.1 in inl cc)
  | inr other ↦ inr (λ e. let head : x ≡ y = cc in let tail : xs ≡ ys = cc in other (head, tail))
]

-- the text begins with p, or it doesn't
pub front_cases : (p text : List ℕ) → ((rest : List ℕ) × (text ≡ p ++ rest)) ⊎ ((rest : List ℕ) → text ≢ p ++ rest)
front_cases [] text = inl (text, refl)
front_cases (c ∷ p) [] = inr (λ rest e. cc)
front_cases (c ∷ p) (d ∷ text) = elim (cases_eq d c) [
  | inl same ↦ elim (front_cases p text) [
    | inl (rest, e) ↦ inl (rest, cc)
    | inr never ↦ inr (λ rest e. let behind : text ≡ p ++ rest = cc in never rest behind)
  ]
  | inr other ↦ inr (λ rest e. let first : d ≡ c = cc in other first)
]

no_end : (front q : List ℕ) → [] ≢ q → [] ≢ front ++ q
no_end [] q other e = other e
no_end (d ∷ front) q other e = cc

later_end : (c : ℕ) (text front q : List ℕ) → c ∷ text ≢ q → ((f : List ℕ) → text ≢ f ++ q) → c ∷ text ≢ front ++ q
later_end c text [] q other never e = other e
later_end c text (d ∷ front) q other never e = let behind : text ≡ front ++ q = cc in never front behind

-- the text ends with q, or it doesn't
pub end_cases : (text q : List ℕ) → ((front : List ℕ) × (text ≡ front ++ q)) ⊎ ((front : List ℕ) → text ≢ front ++ q)
end_cases [] q = elim (same_cases [] q) [
  | inl same ↦ inl ([], same)
  | inr other ↦ inr (λ front e. no_end front q other e)
]
end_cases (c ∷ text) q = elim (same_cases (c ∷ text) q) [
  | inl same ↦ inl ([], same)
  | inr other ↦ elim (end_cases text q) [
    | inl (front, e) ↦ inl (c ∷ front, ap (λ l. c ∷ l) e)
    | inr never ↦ inr (λ front e. later_end c text front q other never e)
  ]
]
