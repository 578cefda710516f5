use Rattle.std.proofs.Common.{◌+◌, take}
use Rattle.ak_summary.proofs.fold.value_of.Given as goal

abbrev pub invariant-loop-p : goal.invariant-loop-p
invariant-loop-p g l = g.F.Fold.is_value (take (l.p-index + 1) l.points) l.value
