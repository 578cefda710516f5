use Rattle.std.proofs.Common.{◌<◌}
use Rattle.ak_base.specs.Points.{last_ts_from}
use Rattle.ak_leaf.proofs.tests.fill.Given as goal

abbrev pub invariant-loop-ts : goal.invariant-loop-ts
invariant-loop-ts l = last_ts_from 0 l.leaf < l.ts
