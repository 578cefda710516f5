use Rattle.std.proofs.Common.{◌≡◌, ◌≤◌, length, take}
use Rattle.ak_select.specs.Windows.{chosen}
use Rattle.ak_walk.proofs.walking.last_at.Given as goal

abbrev pub invariant-loop-i : goal.invariant-loop-i
invariant-loop-i l = record {
  few : l.i ≤ length l.points;
  same : chosen l.window l.filter (take l.initial.at l.points) ≡ chosen l.window l.filter (take l.i l.points);
}

abbrev pub decreases-loop-i : goal.decreases-loop-i
decreases-loop-i l = l.i
