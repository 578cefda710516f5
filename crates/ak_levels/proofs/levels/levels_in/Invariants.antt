use Rattle.std.proofs.Common.{◌-◌, ◌^◌, ◌+◌, ◌*◌, ◌≤◌, ◌<◌}
use Rattle.ak_levels.proofs.levels.levels_in.Given as goal

abbrev pub invariant-loop-levels : goal.invariant-loop-levels
invariant-loop-levels l = record { few : l.levels ≤ 11; below : l.leaves < (l.left + 1) * 32 ^ l.levels }

abbrev pub decreases-loop-levels : goal.decreases-loop-levels
decreases-loop-levels l = 11 - l.levels
