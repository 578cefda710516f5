use Rattle.std.proofs.Common.{◌≡◌, drop, bytes_eq}
use Rattle.std.specs.List.{list_any}
use Rattle.ak_meta.specs.Contents.{names_of}
use Rattle.ak_meta.proofs.tests.is_known.Given as goal

abbrev pub invariant-loop-s : goal.invariant-loop-s
invariant-loop-s l = list_any (bytes_eq l.name) (names_of l.series) ≡ list_any (bytes_eq l.name) (names_of (drop l.s-index l.series))
