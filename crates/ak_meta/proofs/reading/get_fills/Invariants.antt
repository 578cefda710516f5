use Rattle.std.proofs.Common.{◌≡◌, ◌+◌, ◌*◌, ◌^◌, ◌<◌, ◌++◌, ℕ, take, length}
use Rattle.std.specs.List.{flat_map, AllByRecursion}
use Rattle.byteorder.specs.Endian.{little_bytes}
use Rattle.ak_meta.proofs.reading.get_fills.Given as goal

abbrev pub invariant-loop-index : goal.invariant-loop-index
invariant-loop-index l = record {
  count : length l.fills.items ≡ l.index;
  front : take (40 + 4 * l.index) l.from ≡ take 40 l.from ++ flat_map (little_bytes 4) l.fills.items;
  fits : AllByRecursion (λ (fill : ℕ). fill < 2 ^ 32) l.fills.items;
}
