-- What stands in a scan, and where.
use Rattle.std.proofs.Common.{◌≡◌, inl, inr, ℕ, zero, suc, ◌+◌, ◌*◌, ◌<◌, ◌≤◌, ◌==◌, ◌&&◌, Bool, true, false, if◌then◌else◌, List, [], ◌∷◌, ◌++◌, length, map, get_or, drop, Some, None, Option, refl, sym, ◌∙◌, ap, ap₂, subst, arith}
use Rattle.std.proofs.lemmas.Bool.{cases_lt}
use Rattle.ak_forest.specs.Numbers.{span}
use Rattle.ak_forest.specs.Tree.{Seen, Node, width}
use Rattle.ak_forest.specs.Image.{leaf_here, row, scan_from}

abbrev pub Each : (ℕ → Type 0) → List ℕ → Type 0
Each P [] = Unit
Each P (x ∷ xs) = P x × Each P xs

pub each_append : (P : ℕ → Type 0) (xs ys : List ℕ) → Each P xs → Each P ys → Each P (xs ++ ys)
each_append P [] ys one two = two
each_append P (x ∷ xs) ys one two = (one.0, each_append P xs ys one.1 two)

pub each_weaker : (P Q : ℕ → Type 0) → ((x : ℕ) → P x → Q x) → (xs : List ℕ) → Each P xs → Each Q xs
each_weaker P Q f [] all = tt
each_weaker P Q f (x ∷ xs) all = (f x all.0, each_weaker P Q f xs all.1)

pub each_at : (P : ℕ → Type 0) (home : ℕ → ℕ) (n low i : ℕ) → Each P (map home (span low n)) → low ≤ i → i < low + n → P (home i)
each_at P home zero low i all from below = absurd (omega arith)
each_at P home (suc n) low i all from below = elim (cases_lt low i) [
  | inl later ↦ each_at P home n (suc low) i all.1 later (omega arith)
  | inr here ↦ let is : low ≡ i = omega arith in subst (λ (x : ℕ). P (home x)) is all.0
]

-- a row of leaves that is two rows one after the other
pub record Split (home : ℕ → ℕ) (low n : ℕ) (xs ys : List ℕ) : Type 0 where
  pub count : n ≡ length xs + length ys
  pub first : map home (span low (length xs)) ≡ xs
  pub second : map home (span (low + length xs) (length ys)) ≡ ys

pub split_span : (home : ℕ → ℕ) (low n : ℕ) (xs ys : List ℕ) → xs ++ ys ≡ map home (span low n) → Split home low n xs ys
split_span home low n [] ys e =
    let size : length ys ≡ n = ap length e ∙ length_map home low n in
    let place : low + 0 ≡ low = omega arith in
    record {
      count = omega (arith, size);
      first = refl;
      second = ap₂ (λ (a b : ℕ). map home (span a b)) place size ∙ sym e;
    }
  where
    length_map : (home : ℕ → ℕ) (low n : ℕ) → length (map home (span low n)) ≡ n
    length_map home low zero = refl
    length_map home low (suc n) = ap suc (length_map home (suc low) n)
split_span home low zero (x ∷ xs) ys e = let size : suc (length (xs ++ ys)) ≡ 0 = ap length e in absurd (omega arith)
split_span home low (suc n) (x ∷ xs) ys e =
    let head : x ≡ home low = ap (λ (l : List ℕ). get_or l 0 0) e in
    let rest = split_span home (suc low) n xs ys (ap (drop 1) e) in
    let place : low + suc (length xs) ≡ suc low + length xs = omega arith in
    record {
      count = omega (arith, rest.count);
      first = ap₂ (λ (a : ℕ) (l : List ℕ). a ∷ l) (sym head) rest.first;
      second = ap (λ (a : ℕ). map home (span a (length ys))) place ∙ rest.second;
    }

-- where the addresses of a scan lie
record Within (from to x : ℕ) : Type 0 where
  pub above : from ≤ x
  pub below : x < to

pub leaf_within : (series at : ℕ) (node : Option Node) → Each (λ x. x ≡ at) (leaf_here series at node)
leaf_within series at None = tt
leaf_within series at (Some node) = go ((node.level == 0) && (node.series == series))
  where
    go : (b : Bool) → Each (λ x. x ≡ at) (if b then at ∷ [] else [])
    go true = (refl, tt)
    go false = tt

pub row_within : (seen : Seen) (series at n : ℕ) → Each (λ x. (at ≤ x) × (x < at + n)) (row seen series at n)
row_within seen series at zero = tt
row_within seen series at (suc n) =
    each_append (λ x. (at ≤ x) × (x < at + suc n)) (leaf_here series at (seen at)) (row seen series (suc at) n)
    (each_weaker (λ x. x ≡ at) (λ x. (at ≤ x) × (x < at + suc n)) (λ x is. (omega (arith, is), omega (arith, is))) (leaf_here series at (seen at)) (leaf_within series at (seen at)))
    (each_weaker (λ x. (suc at ≤ x) × (x < suc at + n)) (λ x. (at ≤ x) × (x < at + suc n)) (λ x is. (omega (arith, is.0), omega (arith, is.1))) (row seen series (suc at) n) (row_within seen series (suc at) n))

pub scan_above : (seen : Seen) (series o : ℕ) (fills : List ℕ) → Each (λ x. o * width ≤ x) (scan_from seen series o fills)
scan_above seen series o [] = tt
scan_above seen series o (fill ∷ fills) =
    each_append (λ x. o * width ≤ x) (row seen series (o * width) fill) (scan_from seen series (suc o) fills)
    (each_weaker (λ x. (o * width ≤ x) × (x < o * width + fill)) (λ x. o * width ≤ x) (λ x is. is.0) (row seen series (o * width) fill) (row_within seen series (o * width) fill))
    (each_weaker (λ x. suc o * width ≤ x) (λ x. o * width ≤ x) (λ x is. omega (arith, is)) (scan_from seen series (suc o) fills) (scan_above seen series (suc o) fills))

-- two that see the same from an address on
module _ (one two : Seen) (from : ℕ) (same : (at : ℕ) → from ≤ at → one at ≡ two at) where
  pub row_same : (series at n : ℕ) → from ≤ at → row one series at n ≡ row two series at n
  row_same series at zero h = refl
  row_same series at (suc n) h = ap₂ (λ (a b : List ℕ). a ++ b) (ap (leaf_here series at) (same at h)) (row_same series (suc at) n (omega arith))

  pub scan_same : (series o : ℕ) (fills : List ℕ) → from ≤ o * width → scan_from one series o fills ≡ scan_from two series o fills
  scan_same series o [] h = refl
  scan_same series o (fill ∷ fills) h = ap₂ (λ (a b : List ℕ). a ++ b) (row_same series (o * width) fill h) (scan_same series (suc o) fills (omega arith))

-- an ordinal with nothing in it
pub scan_empty : (seen : Seen) (series o : ℕ) (fills : List ℕ) → scan_from seen series o (fills ++ 0 ∷ []) ≡ scan_from seen series o fills
scan_empty seen series o [] = refl
scan_empty seen series o (fill ∷ fills) = ap (λ (l : List ℕ). row seen series (o * width) fill ++ l) (scan_empty seen series (suc o) fills)

pub fill_empty : (fills : List ℕ) (i : ℕ) → get_or (fills ++ 0 ∷ []) i 0 ≡ get_or fills i 0
fill_empty [] zero = refl
fill_empty [] (suc i) = refl
fill_empty (fill ∷ fills) zero = refl
fill_empty (fill ∷ fills) (suc i) = fill_empty fills i
