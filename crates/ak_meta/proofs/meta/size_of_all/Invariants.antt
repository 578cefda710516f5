use Rattle.std.proofs.Common.{◌≡◌, ◌+◌, drop, length, map, sum}
use Rattle.ak_meta.specs.declared.meta.SeriesMeta.{SeriesMeta}
use Rattle.ak_meta.proofs.meta.size_of_all.Given as goal

abbrev pub invariant-loop-s : goal.invariant-loop-s
invariant-loop-s l = l.size + sum (map (λ (s : SeriesMeta). 106 + length s.name) (drop l.s-index l.series)) ≡ sum (map (λ (s : SeriesMeta). 106 + length s.name) l.series)
