use Rattle.std.proofs.Common.{◌≡◌, ◌+◌, ◌*◌, ◌++◌, take}
use Rattle.std.specs.List.{flat_map}
use Rattle.ak_inner.specs.References.{ref_bytes}
use Rattle.ak_inner.proofs.references.put_refs.Given as goal

abbrev pub invariant-loop-r : goal.invariant-loop-r
invariant-loop-r l = record {
  end : l.end ≡ l.at + 104 * l.r-index;
  front : take l.end l.into ≡ take l.at l.fn.into ++ flat_map ref_bytes (take l.r-index l.refs);
}
