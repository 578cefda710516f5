use Rattle.std.proofs.Common.{◌-◌, ◌≡◌, ◌^◌, ◌+◌, ◌*◌, ◌≤◌, ◌<◌}
use Rattle.ak_levels.proofs.carries.carry.Given as goal

abbrev pub invariant-loop-levels : goal.invariant-loop-levels
invariant-loop-levels l = record { few : l.levels ≤ 10; whole : l.left * 32 ^ l.levels ≡ l.m + 1; some : 0 < l.left }

abbrev pub decreases-loop-levels : goal.decreases-loop-levels
decreases-loop-levels l = 10 - l.levels
