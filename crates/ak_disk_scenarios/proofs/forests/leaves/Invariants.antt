use Rattle.ak_tree.specs.Standing.{IsReady}
use Rattle.ak_disk_scenarios.proofs.forests.leaves.Given as goal

abbrev pub invariant-loop-ts : goal.invariant-loop-ts
invariant-loop-ts g l = IsReady g.D.Outside.tells l.forest (g.D.Outside.state l.disk)
