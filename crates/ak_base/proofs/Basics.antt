-- Small laws that proofs of every layer use.
use Rattle.std.proofs.Common.{ℕ, ◌≡◌, ◌≤◌, List, [], ◌∷◌, ◌++◌, length, Bool, true, false, nat_eq, refl, arith, suc}
use Rattle.std.proofs.lemmas.Bool.Decides.{nat_tests}

pub not_both : (b : Bool) → b ≡ true → b ≡ false → ⊥
not_both b is_true is_false = cc

pub is_eq : (a b : ℕ) → nat_eq a b ≡ true → a ≡ b
is_eq a b e = grind (arith, nat_tests)

-- A list that splits in two ways: the first part of one way begins with that of the other.
pub longer_front : (a b x y : List ℕ) → a ++ b ≡ x ++ y → length a ≤ length x → (w : List ℕ) × (x ≡ a ++ w) × (b ≡ w ++ y)
longer_front [] b x y e h = (x, refl, e)
longer_front (c ∷ cs) b [] y e h = let none : suc (length cs) ≤ 0 = h in absurd (omega arith)
longer_front (c ∷ cs) b (d ∷ xs) y e h =
    let head : c ≡ d = cc in
    let tail : cs ++ b ≡ xs ++ y = cc in
    let some : suc (length cs) ≤ suc (length xs) = h in
    let rest = longer_front cs b xs y tail (omega arith) in
    let joined : xs ≡ cs ++ rest.0 = rest.1 in
    (rest.0, cc, rest.2)
