-- Leaves by their consecutive numbers: where each stands, and the points of those from one number on and below another.
use Rattle.std.proofs.Common.{inl, inr, ◌≡◌, ◌≢◌, ◌⊎◌, ◌+◌, ◌<◌, ◌≤◌, ℕ, suc, List, [], ◌∷◌, ◌++◌, length, refl, sym, ap, ◌∙◌, arith, append_assoc, append-nil}
use Rattle.std.proofs.lemmas.Bool.{cases_lt}
use Rattle.std.proofs.lemmas.Bool.Decides.{nat_tests}
use Rattle.std.specs.List.{AllByRecursion}
use Rattle.std.specs.Prelude.{◌==◌, if◌then◌else◌}
use Rattle.ak_base.specs.declared.point.Point.{Point}
use Rattle.ak_image.specs.Trees.{points_between}
use Rattle.ak_world.specs.Leaves.{Leaf}
use Rattle.ak_world.specs.Valid.{AreNumbered}
use Rattle.ak_world.specs.Views.{none, address_of}

pub number_at : (first : ℕ) (front : List Leaf) (leaf : Leaf) (behind : List Leaf) → AreNumbered first (front ++ leaf ∷ behind) → leaf.number ≡ first + length front
number_at first [] leaf behind are = omega (arith, are.0)
number_at first (x ∷ front) leaf behind are = omega (arith, number_at (suc first) front leaf behind are.1)

-- ---- Addresses

address_here : (x : Leaf) (leaves : List Leaf) (m : ℕ) → x.number ≡ m → address_of (x ∷ leaves) m ≡ x.address
address_here x leaves m is = grind (arith, nat_tests)

address_past : (x : Leaf) (leaves : List Leaf) (m : ℕ) → x.number ≢ m → address_of (x ∷ leaves) m ≡ address_of leaves m
address_past x leaves m other = grind (arith, nat_tests)

pub address_at : (first : ℕ) (front : List Leaf) (leaf : Leaf) (behind : List Leaf) → AreNumbered first (front ++ leaf ∷ behind) → address_of (front ++ leaf ∷ behind) leaf.number ≡ leaf.address
address_at first [] leaf behind are = address_here leaf behind leaf.number refl
address_at first (x ∷ front) leaf behind are =
    address_past x (front ++ leaf ∷ behind) leaf.number (omega (arith, are.0, number_at (suc first) front leaf behind are.1)) ∙ address_at (suc first) front leaf behind are.1

-- of another number than that of the leaf behind
pub address_other : (leaves : List Leaf) (leaf : Leaf) (m : ℕ) → leaf.number ≢ m → address_of (leaves ++ leaf ∷ []) m ≡ address_of leaves m
address_other [] leaf m other = address_past leaf [] m other
address_other (x ∷ leaves) leaf m other = ap (λ (a : ℕ). if x.number == m then x.address else a) (address_other leaves leaf m other)

-- ---- Points

between_with : (x : Leaf) (leaves : List Leaf) (i j : ℕ) → i ≤ x.number → x.number < j → points_between (x ∷ leaves) i j ≡ x.points ++ points_between leaves i j
between_with x leaves i j from to = grind (arith, nat_tests)

between_without : (x : Leaf) (leaves : List Leaf) (i j : ℕ) → (x.number < i) ⊎ (j ≤ x.number) → points_between (x ∷ leaves) i j ≡ points_between leaves i j
between_without x leaves i j out = grind (arith, nat_tests)

pub between_before : (first : ℕ) (leaves : List Leaf) (i j : ℕ) → AreNumbered first leaves → j ≤ first → points_between leaves i j ≡ []
between_before first [] i j are past = refl
between_before first (x ∷ leaves) i j are past = between_without x leaves i j (inr (omega (arith, are.0))) ∙ between_before (suc first) leaves i j are.1 (omega arith)

pub between_one : (first : ℕ) (front : List Leaf) (leaf : Leaf) (behind : List Leaf) → AreNumbered first (front ++ leaf ∷ behind) → points_between (front ++ leaf ∷ behind) leaf.number (suc leaf.number) ≡ leaf.points
between_one first [] leaf behind are =
    between_with leaf behind leaf.number (suc leaf.number) (omega arith) (omega arith)
    ∙ ap (λ (ps : List Point). leaf.points ++ ps) (between_before (suc first) behind leaf.number (suc leaf.number) are.1 (omega (arith, are.0))) ∙ append-nil leaf.points
between_one first (x ∷ front) leaf behind are =
    between_without x (front ++ leaf ∷ behind) leaf.number (suc leaf.number) (inl (omega (arith, are.0, number_at (suc first) front leaf behind are.1)))
    ∙ between_one (suc first) front leaf behind are.1

-- below the number of the leaf behind
pub between_other : (leaves : List Leaf) (leaf : Leaf) (i j : ℕ) → j ≤ leaf.number → points_between (leaves ++ leaf ∷ []) i j ≡ points_between leaves i j
between_other [] leaf i j below = between_without leaf [] i j (inr below)
between_other (x ∷ leaves) leaf i j below = elim (cases_lt x.number i) [
  | inl before ↦ between_without x (leaves ++ leaf ∷ []) i j (inl before) ∙ between_other leaves leaf i j below ∙ sym (between_without x leaves i j (inl before))
  | inr from ↦ elim (cases_lt x.number j) [
    | inl to ↦ between_with x (leaves ++ leaf ∷ []) i j from to ∙ ap (λ (ps : List Point). x.points ++ ps) (between_other leaves leaf i j below) ∙ sym (between_with x leaves i j from to)
    | inr past ↦ between_without x (leaves ++ leaf ∷ []) i j (inr past) ∙ between_other leaves leaf i j below ∙ sym (between_without x leaves i j (inr past))
  ]
]

-- two neighbouring stretches
pub between_join : (first : ℕ) (leaves : List Leaf) (i j k : ℕ) → AreNumbered first leaves → i ≤ j → j ≤ k → points_between leaves i j ++ points_between leaves j k ≡ points_between leaves i k
between_join first [] i j k are h g = refl
between_join first (x ∷ leaves) i j k are h g =
    let rest : points_between leaves i j ++ points_between leaves j k ≡ points_between leaves i k = between_join (suc first) leaves i j k are.1 h g in
    elim (cases_lt x.number i) [
      | inl before ↦ joined_without (inl before) (inl (omega (arith, before, h))) (inl before) rest
      | inr from ↦ elim (cases_lt x.number j) [
        | inl to ↦
            ap (λ (ps : List Point). ps ++ points_between (x ∷ leaves) j k) (between_with x leaves i j from to)
            ∙ ap (λ (ps : List Point). (x.points ++ points_between leaves i j) ++ ps) (between_without x leaves j k (inl to))
            ∙ append_assoc x.points (points_between leaves i j) (points_between leaves j k)
            ∙ ap (λ (ps : List Point). x.points ++ ps) rest
            ∙ sym (between_with x leaves i k from (omega (arith, to, g)))
        | inr middle ↦ elim (cases_lt x.number k) [
          | inl to ↦
              let none : points_between leaves i j ≡ [] = between_before (suc first) leaves i j are.1 (omega (arith, are.0, middle)) in
              ap (λ (ps : List Point). ps ++ points_between (x ∷ leaves) j k) (between_without x leaves i j (inr middle) ∙ none)
              ∙ between_with x leaves j k middle to
              ∙ ap (λ (ps : List Point). x.points ++ ps) (ap (λ (ps : List Point). ps ++ points_between leaves j k) (sym none) ∙ rest)
              ∙ sym (between_with x leaves i k from to)
          | inr past ↦ joined_without (inr middle) (inr past) (inr past) rest
        ]
      ]
    ]
  where
    joined_without : (x.number < i) ⊎ (j ≤ x.number) → (x.number < j) ⊎ (k ≤ x.number) → (x.number < i) ⊎ (k ≤ x.number) → points_between leaves i j ++ points_between leaves j k ≡ points_between leaves i k
        → points_between (x ∷ leaves) i j ++ points_between (x ∷ leaves) j k ≡ points_between (x ∷ leaves) i k
    joined_without a b d rest =
        ap (λ (ps : List Point). ps ++ points_between (x ∷ leaves) j k) (between_without x leaves i j a)
        ∙ ap (λ (ps : List Point). points_between leaves i j ++ ps) (between_without x leaves j k b) ∙ rest ∙ sym (between_without x leaves i k d)

-- where each leaf has a point
some_first : (ps qs : List Point) → 0 < length ps → ps ++ qs ≢ []
some_first [] qs some none = absurd (omega arith)
some_first (p ∷ ps) qs some none = absurd (cc)

pub between_some : (first : ℕ) (leaves : List Leaf) (i j : ℕ) → AreNumbered first leaves → AllByRecursion (λ (leaf : Leaf). 0 < length leaf.points) leaves → first ≤ i → i < first + length leaves → i < j
    → points_between leaves i j ≢ []
between_some first [] i j are each from to less = absurd (omega arith)
between_some first (x ∷ leaves) i j are each from to less = elim (cases_lt x.number i) [
  | inl before ↦ λ none. between_some (suc first) leaves i j are.1 each.1 (omega (arith, are.0, before)) (omega (arith, to)) less (sym (between_without x leaves i j (inl before)) ∙ none)
  | inr here ↦ λ none. some_first x.points (points_between leaves i j) each.0 (sym (between_with x leaves i j here (omega (arith, are.0, from, less))) ∙ none)
]
