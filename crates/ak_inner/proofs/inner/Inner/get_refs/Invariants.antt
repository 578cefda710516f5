use Rattle.std.proofs.Common.{◌≡◌, ◌+◌, ◌*◌, ◌++◌, length, take}
use Rattle.std.specs.List.{flat_map}
use Rattle.ak_inner.specs.References.{ref_bytes}
use Rattle.ak_inner.proofs.inner.Inner.get_refs.Given as goal

abbrev pub invariant-loop : goal.invariant-loop
invariant-loop l = record {
  count : length l.self ≡ l.counter;
  end : l.end ≡ 64 + 104 * l.counter;
  front : take l.end l.from ≡ take 64 l.from ++ flat_map ref_bytes l.self;
}
