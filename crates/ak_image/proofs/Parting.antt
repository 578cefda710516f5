-- What is found in a row of blocks is what is found in its two parts.
use Rattle.std.proofs.Common.{◌≡◌, ℕ, zero, suc, ◌+◌, List, [], ◌∷◌, ◌++◌, refl, sym, ◌∙◌, ap, subst, inl, inr, arith}
use Rattle.ak_image.specs.Blocks.{Seen}
use Rattle.ak_image.specs.Scans.{AreFound}
use Rattle.ak_world.specs.Leaves.{Leaf}

-- blocks that are looked at in two parts
pub record Parted (seen : Seen) (series front back a : ℕ) (leaves : List Leaf) : Type 0 where
  pub first : List Leaf
  pub rest : List Leaf
  pub is : leaves ≡ first ++ rest
  pub in_front : AreFound seen series front a first
  pub behind : AreFound seen series back (a + front) rest

pub found_parted : (seen : Seen) (series front back a : ℕ) (leaves : List Leaf) → AreFound seen series (front + back) a leaves → Parted seen series front back a leaves
found_parted seen series zero back a leaves are =
    let count : zero + back ≡ back = omega arith in
    let place : a ≡ a + zero = omega arith in
    record {
      first = [];
      rest = leaves;
      is = refl;
      in_front = refl;
      behind = subst (λ (b : ℕ). AreFound seen series back b leaves) place (subst (λ (n : ℕ). AreFound seen series n a leaves) count are);
    }
found_parted seen series (suc front) back a leaves are =
    let place : a + 1 + front ≡ a + suc front = omega arith in
    let count : suc front + back ≡ suc (front + back) = omega arith in
    let whole : AreFound seen series (suc (front + back)) a leaves = subst (λ (n : ℕ). AreFound seen series n a leaves) count are in
    elim whole [
      | inl found ↦
          let p = found_parted seen series front back (a + 1) found.1 found.4 in
          record {
            first = found.0 ∷ p.first;
            rest = p.rest;
            is = found.3 ∙ ap (λ (l : List Leaf). found.0 ∷ l) p.is;
            in_front = inl (found.0, p.first, found.2, refl, p.in_front);
            behind = subst (λ (b : ℕ). AreFound seen series back b p.rest) place p.behind;
          }
      | inr none ↦
          let p = found_parted seen series front back (a + 1) leaves none.1 in
          record {
            first = p.first;
            rest = p.rest;
            is = p.is;
            in_front = inr (none.0, p.in_front);
            behind = subst (λ (b : ℕ). AreFound seen series back b p.rest) place p.behind;
          }
    ]

pub found_joined : (seen : Seen) (series front back a : ℕ) (first rest : List Leaf) → AreFound seen series front a first → AreFound seen series back (a + front) rest → AreFound seen series (front + back) a (first ++ rest)
found_joined seen series zero back a first rest one two =
    let count : back ≡ zero + back = omega arith in
    let place : a + zero ≡ a = omega arith in
    let whole : AreFound seen series (zero + back) a rest = subst (λ (n : ℕ). AreFound seen series n a rest) count (subst (λ (b : ℕ). AreFound seen series back b rest) place two) in
    subst (λ (l : List Leaf). AreFound seen series (zero + back) a (l ++ rest)) (sym one) whole
found_joined seen series (suc front) back a first rest one two =
    let count : suc (front + back) ≡ suc front + back = omega arith in
    let place : a + suc front ≡ a + 1 + front = omega arith in
    let moved : AreFound seen series back (a + 1 + front) rest = subst (λ (b : ℕ). AreFound seen series back b rest) place two in
    let whole : AreFound seen series (suc (front + back)) a (first ++ rest) = elim one [
      | inl found ↦ inl (found.0, found.1 ++ rest, found.2, ap (λ (l : List Leaf). l ++ rest) found.3, found_joined seen series front back (a + 1) found.1 rest found.4 moved)
      | inr none ↦ inr (none.0, found_joined seen series front back (a + 1) first rest none.1 moved)
    ] in
    subst (λ (n : ℕ). AreFound seen series n a (first ++ rest)) count whole
