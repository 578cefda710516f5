-- How many bytes series have at least.
use Rattle.std.proofs.Common.{ℕ, ◌+◌, ◌≤◌, List, [], ◌∷◌, length, map, sum, arith}
use Rattle.std.proofs.lemmas.List.Sums.{sum_by-cons}
use Rattle.ak_meta.specs.declared.meta.SeriesMeta.{SeriesMeta}

pub many : (xs : List SeriesMeta) → length xs ≤ sum (map (λ (s : SeriesMeta). 106 + length s.name) xs)
many [] = omega arith
many (s ∷ xs) = omega (arith, sum_by-cons (λ (n : ℕ). n) (106 + length s.name) (map (λ (t : SeriesMeta). 106 + length t.name) xs), many xs)
