use Rattle.std.proofs.Common.{◌≡◌, ◌+◌, ◌<◌, ◌^◌, ◌++◌, take, drop, length, map, sum}
use Rattle.std.specs.List.{flat_map, AllByRecursion}
use Rattle.ak_meta.specs.Contents.{series_bytes}
use Rattle.ak_meta.specs.declared.meta.SeriesMeta.{SeriesMeta}
use Rattle.ak_meta.proofs.putting.put_all.Given as goal

abbrev pub invariant-loop-s : goal.invariant-loop-s
invariant-loop-s l = record {
  end : l.end + sum (map (λ (s : SeriesMeta). 106 + length s.name) (drop l.s-index l.series)) ≡ l.at + sum (map (λ (s : SeriesMeta). 106 + length s.name) l.series);
  short : AllByRecursion (λ (s : SeriesMeta). length s.name < 2 ^ 16) (drop l.s-index l.series);
  front : take l.end l.into ≡ take l.at l.fn.into ++ flat_map series_bytes (take l.s-index l.series);
}
