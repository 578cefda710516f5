-- The summary of a list has a bounded sum, so summaries of lists that aren't too long can be joined.
use Rattle.std.proofs.Common.{◌≡◌, ◌+◌, ◌^◌, ◌<◌, ℕ, suc, ℤ, pos, ◌+ℤ◌, ◌*ℤ◌, ◌≤ℤ◌, List, [], ◌∷◌, length, sym, subst, arith}
use Rattle.std.proofs.lemmas.Int.{ints}
use Rattle.std.proofs.Math.IntN.{suc_ℤ-*ℤ, zero-*ℤ}
use Rattle.std.specs.List.{AllByRecursion}
use Rattle.ak_base.specs.declared.point.Point.{Point}
use Rattle.ak_summary.specs.Summaries.{value_sum, IsSummary, IsBounded, CanJoin}
use Rattle.ak_summary.specs.declared.summary.Summary.{Summary}

pub product_suc : (c : ℕ) (v : ℤ) → (pos (suc c) *ℤ v) ≡ (pos c *ℤ v) +ℤ v
product_suc c v = suc_ℤ-*ℤ (pos c) v

sum_least : (ps : List Point) (v : ℤ) → AllByRecursion (λ p. v ≤ℤ p.value) ps → (pos (length ps) *ℤ v) ≤ℤ value_sum ps
sum_least [] v each = omega (arith, ints, zero-*ℤ v)
sum_least (p ∷ ps) v each = omega (arith, ints, each.0, product_suc (length ps) v, sum_least ps v each.1)

sum_most : (ps : List Point) (v : ℤ) → AllByRecursion (λ p. p.value ≤ℤ v) ps → value_sum ps ≤ℤ (pos (length ps) *ℤ v)
sum_most [] v each = omega (arith, ints, zero-*ℤ v)
sum_most (p ∷ ps) v each = omega (arith, ints, each.0, product_suc (length ps) v, sum_most ps v each.1)

pub IsSummary-bounded : (ps : List Point) (s : Summary) → IsSummary ps s → IsBounded s
IsSummary-bounded ps s is = record {
  low = subst (λ (n : ℕ). (pos n *ℤ s.min) ≤ℤ s.sum) (sym is.count) (subst (λ (z : ℤ). (pos (length ps) *ℤ s.min) ≤ℤ z) (sym is.total) (sum_least ps s.min is.low.least));
  high = subst (λ (n : ℕ). s.sum ≤ℤ (pos n *ℤ s.max)) (sym is.count) (subst (λ (z : ℤ). z ≤ℤ (pos (length ps) *ℤ s.max)) (sym is.total) (sum_most ps s.max is.high.greatest));
}

pub IsSummary-can_join : (ps qs : List Point) (a b : Summary) → IsSummary ps a → IsSummary qs b → length ps + length qs < 2 ^ 63 → CanJoin a b
IsSummary-can_join ps qs a b s t small = record {
  counts = omega (arith, s.count, t.count, small);
  earlier = IsSummary-bounded ps a s;
  later = IsSummary-bounded qs b t;
}
