use Rattle.std.proofs.Common.{◌≡◌, ◌-◌, ◌+◌, ◌≤◌, ◌&&◌, take, reverse}
use Rattle.std.specs.List.{prefix_len}
use Rattle.ak_base.specs.Selections.{filter_has}
use Rattle.ak_select.specs.Windows.{is_within}
use Rattle.ak_walk.proofs.running.count_back.Given as goal

abbrev pub invariant-loop-i : goal.invariant-loop-i
invariant-loop-i l = record {
  most : l.i ≤ l.to;
  same : prefix_len (λ p. is_within l.window p.ts && filter_has l.filter p.value) (reverse (take l.to l.points))
      ≡ (l.to - l.i) + prefix_len (λ p. is_within l.window p.ts && filter_has l.filter p.value) (reverse (take l.i l.points));
}

abbrev pub decreases-loop-i : goal.decreases-loop-i
decreases-loop-i l = l.i
