use Rattle.std.proofs.Common.{◌≡◌, ◌≤◌, ◌++◌, length, take, bytes_eq}
use Rattle.std.specs.List.{flat_map, AllByRecursion, IsDistinct}
use Rattle.ak_meta.specs.Contents.{IsSeries, names_of, series_bytes}
use Rattle.ak_meta.proofs.reading.read_all.Given as goal

abbrev pub invariant-loop : goal.invariant-loop
invariant-loop l = record {
  count : length l.all.items ≡ l.counter;
  within : l.at ≤ length l.from;
  each : AllByRecursion IsSeries l.all.items;
  apart : IsDistinct bytes_eq (names_of l.all.items);
  names : l.names ≡ names_of l.all.items;
  bytes : take l.at l.from ≡ take l.start l.from ++ flat_map series_bytes l.all.items;
}
