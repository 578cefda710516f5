use Rattle.std.proofs.Common.{◌≡◌, ◌+◌, ◌*◌, ◌++◌, take}
use Rattle.ak_meta.specs.Contents.{rescue_bytes}
use Rattle.ak_meta.proofs.putting.put_rescue.Given as goal

abbrev pub invariant-loop-a : goal.invariant-loop-a
invariant-loop-a l = record {
  end : l.end ≡ l.at + 8 * l.a-index;
  front : take l.end l.into ≡ take l.at l.fn.into ++ rescue_bytes (take l.a-index l.rescue);
}
