use Rattle.std.proofs.Common.{◌↔◌, drop}
use Rattle.ak_inner.proofs.Lists.{AreFrom}
use Rattle.ak_inner.proofs.references.are_refs.Given as goal

abbrev pub invariant-loop-r : goal.invariant-loop-r
invariant-loop-r l = AreFrom l.level 0 l.refs ↔ AreFrom l.level l.end (drop l.r-index l.refs)
