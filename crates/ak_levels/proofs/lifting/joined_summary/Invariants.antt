use Rattle.std.proofs.Common.{◌≡◌, ◌+◌, take}
use Rattle.ak_levels.specs.Joins.{joined_refs}
use Rattle.ak_levels.proofs.lifting.joined_summary.Given as goal

abbrev pub invariant-loop-r : goal.invariant-loop-r
invariant-loop-r l = l.whole ≡ joined_refs (take (l.r-index + 1) l.refs)
