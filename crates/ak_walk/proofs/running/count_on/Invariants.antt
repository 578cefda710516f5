use Rattle.std.proofs.Common.{◌≡◌, ◌-◌, ◌+◌, ◌≤◌, ◌&&◌, length, drop}
use Rattle.std.specs.List.{prefix_len}
use Rattle.ak_base.specs.Selections.{filter_has}
use Rattle.ak_select.specs.Windows.{is_within}
use Rattle.ak_walk.proofs.running.count_on.Given as goal

abbrev pub invariant-loop-i : goal.invariant-loop-i
invariant-loop-i l = record {
  from : l.at ≤ l.i;
  same : prefix_len (λ p. is_within l.window p.ts && filter_has l.filter p.value) (drop l.at l.points)
      ≡ (l.i - l.at) + prefix_len (λ p. is_within l.window p.ts && filter_has l.filter p.value) (drop l.i l.points);
}

abbrev pub decreases-loop-i : goal.decreases-loop-i
decreases-loop-i l = length l.points - l.i
