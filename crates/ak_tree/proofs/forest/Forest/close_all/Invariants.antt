use Rattle.std.proofs.Common.{◌≡◌, ◌≢◌, ◌<◌, ◌≤◌, ℕ, length, get_or, None}
use Rattle.ak_host.specs.Moments.{DiskPasses}
use Rattle.ak_meta.specs.Contents.{names_of}
use Rattle.ak_tree.specs.Later.{KeepsOrigins}
use Rattle.ak_tree.specs.Standing.{Holds, HasPlaces, IsReady}
use Rattle.ak_tree.specs.Storing.{LeavesView}
use Rattle.ak_world.specs.Steps.{closed_from}
use Rattle.ak_world.specs.Worlds.{World}
use Rattle.ak_tree.proofs.Joining.{IsOnWay}
use Rattle.ak_tree.proofs.forest.Forest.close_all.Given as goal

abbrev pub invariant-loop-series : goal.invariant-loop-series
invariant-loop-series g l = record {
  later : (g.D.Outside.state l.fn.disk).disk_faults ≤ (g.D.Outside.state l.disk).disk_faults;
  port_faults : (g.D.Outside.state l.disk).port_faults ≡ (g.D.Outside.state l.fn.disk).port_faults;
  sizes : (g.D.Outside.state l.disk).sizes ≡ (g.D.Outside.state l.fn.disk).sizes;
  ready : IsReady g.D.Outside.tells l.self (g.D.Outside.state l.disk);
  names : names_of l.self.meta.series ≡ names_of l.fn.self.meta.series;
  limits : l.self.meta.limits ≡ l.fn.self.meta.limits;
  becomes : g.D.Outside.tells → KeepsOrigins (g.D.Outside.state l.fn.disk) (g.D.Outside.state l.disk) l.fn.self.meta l.self.meta;
  places : (n : ℕ) → l.series ≤ n → get_or l.self.frames n None ≢ None → HasPlaces l.self n;
  none : (n : ℕ) → n < l.series → get_or l.self.frames n None ≡ None;
  reads : g.D.Outside.tells → (g.D.Outside.state l.disk).reads ≡ (g.D.Outside.state l.fn.disk).reads;
  way : g.D.Outside.tells → (w : World) → Holds w l.fn.self (g.D.Outside.state l.fn.disk) → IsOnWay w l.series l.self (g.D.Outside.state l.disk);
  passes : g.D.Outside.tells → DiskPasses (λ left. Unit {0}) (g.D.Outside.state l.fn.disk) (g.D.Outside.state l.disk);
  moments : g.D.Outside.tells → (w : World) → Holds w l.fn.self (g.D.Outside.state l.fn.disk)
      → DiskPasses (LeavesView w (closed_from (length w.series) 0 w)) (g.D.Outside.state l.fn.disk) (g.D.Outside.state l.disk);
}
