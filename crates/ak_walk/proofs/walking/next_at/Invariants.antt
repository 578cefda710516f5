use Rattle.std.proofs.Common.{◌≡◌, ◌-◌, length, drop}
use Rattle.ak_select.specs.Windows.{chosen}
use Rattle.ak_walk.proofs.walking.next_at.Given as goal

abbrev pub invariant-loop-i : goal.invariant-loop-i
invariant-loop-i l = chosen l.window l.filter (drop l.initial.at l.points) ≡ chosen l.window l.filter (drop l.i l.points)

abbrev pub decreases-loop-i : goal.decreases-loop-i
decreases-loop-i l = length l.points - l.i
