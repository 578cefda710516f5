use Rattle.std.proofs.Common.{◌≡◌, ◌≤◌, None}
use Rattle.ak_host.specs.Moments.{DiskPasses}
use Rattle.ak_node.specs.Names.{late_known}
use Rattle.ak_node.specs.Standing.{IsReady, Holds}
use Rattle.ak_node.proofs.Accepting.{AreAccepted}
use Rattle.ak_tree.specs.Later.{KeepsOrigins}
use Rattle.ak_tree.specs.Storing.{LeavesView}
use Rattle.ak_world.specs.Puts.{all_accepted}
use Rattle.ak_world.specs.Worlds.{World}
use Rattle.ak_node.proofs.puts.accept_all.Given as goal

abbrev pub invariant-loop-at : goal.invariant-loop-at
invariant-loop-at g l = record {
  later : (g.D.Outside.state l.fn.disk).disk_faults ≤ (g.D.Outside.state l.disk).disk_faults;
  port_faults : (g.D.Outside.state l.disk).port_faults ≡ (g.D.Outside.state l.fn.disk).port_faults;
  sizes : (g.D.Outside.state l.disk).sizes ≡ (g.D.Outside.state l.fn.disk).sizes;
  ready : IsReady g.D.Outside.tells l.keeper (g.D.Outside.state l.disk);
  becomes : g.D.Outside.tells → KeepsOrigins (g.D.Outside.state l.fn.disk) (g.D.Outside.state l.disk) l.fn.keeper.forest.meta l.keeper.forest.meta;
  names : l.keeper.names ≡ l.fn.keeper.names;
  none_late : late_known l.keeper.forest l.keeper.names l.names l.time ≡ None;
  reads : g.D.Outside.tells → (g.D.Outside.state l.disk).reads ≡ (g.D.Outside.state l.fn.disk).reads;
  so_far : g.D.Outside.tells → (content : World) → Holds content l.fn.keeper (g.D.Outside.state l.fn.disk)
      → AreAccepted content l.names l.time l.values l.at l.keeper.forest (g.D.Outside.state l.disk);
  passes : g.D.Outside.tells → DiskPasses (λ left. Unit {0}) (g.D.Outside.state l.fn.disk) (g.D.Outside.state l.disk);
  moments : g.D.Outside.tells → (content : World) → Holds content l.fn.keeper (g.D.Outside.state l.fn.disk)
      → DiskPasses (LeavesView content (all_accepted content l.names l.time l.values)) (g.D.Outside.state l.fn.disk) (g.D.Outside.state l.disk);
}
