use Rattle.std.proofs.Common.{◌≡◌, ◌+◌, ◌++◌, ℕ, List, take}
use Rattle.ak_base.specs.declared.point.Point.{Point}
use Rattle.ak_fold.specs.Folded.{AreUpTo}
use Rattle.ak_select.specs.Windows.{chosen, summed}
use Rattle.ak_fold.proofs.adding.with_points.Given as goal

abbrev pub invariant-loop-p : goal.invariant-loop-p
invariant-loop-p l = record {
  is : (ps : List Point) → l.fn.so_far ≡ summed ps → l.all ≡ summed (ps ++ chosen l.asked.window l.asked.filter (take l.p-index l.points));
  up_to : (n : ℕ) → AreUpTo n l.fn.so_far → AreUpTo (n + l.p-index) l.all;
}
