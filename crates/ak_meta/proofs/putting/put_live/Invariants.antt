use Rattle.std.proofs.Common.{◌≡◌, ◌+◌, ◌*◌, ◌++◌, take}
use Rattle.std.specs.List.{flat_map}
use Rattle.byteorder.specs.Endian.{little_bytes}
use Rattle.ak_meta.proofs.putting.put_live.Given as goal

abbrev pub invariant-loop-fill : goal.invariant-loop-fill
invariant-loop-fill l = record {
  end : l.end ≡ 40 + 4 * l.fill-index;
  front : take l.end l.into ≡ take 40 l.fn.into ++ flat_map (little_bytes 4) (take l.fill-index l.fills);
}
