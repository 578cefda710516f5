use Rattle.std.proofs.Common.{◌≡◌, ◌+◌, ◌*◌, ◌^◌, ◌<◌, ◌++◌, take, length}
use Rattle.std.specs.List.{AllByRecursion}
use Rattle.ak_base.specs.declared.point.Addr.{Addr}
use Rattle.ak_meta.specs.Contents.{rescue_bytes}
use Rattle.ak_meta.proofs.reading.get_rescue.Given as goal

abbrev pub invariant-loop-level : goal.invariant-loop-level
invariant-loop-level l = record {
  long : length l.rescue ≡ 11;
  bytes : take (l.at + 8 * l.level) l.from ≡ take l.at l.from ++ rescue_bytes (take l.level l.rescue);
  fits : AllByRecursion (λ (a : Addr). a.0 < 2 ^ 64) (take l.level l.rescue);
}
