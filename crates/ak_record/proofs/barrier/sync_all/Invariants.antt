use Rattle.std.proofs.Common.{◌≡◌, ℕ, ◌<◌, ◌≤◌}
use Rattle.ak_host.specs.Moments.{DiskPasses, IsStable, LeavesNow}
use Rattle.ak_record.proofs.barrier.sync_all.Given as goal

abbrev pub invariant-loop-file : goal.invariant-loop-file
invariant-loop-file g l = record {
  sizes : (g.D.Outside.state l.disk).sizes ≡ (g.D.Outside.state l.fn.disk).sizes;
  later : (g.D.Outside.state l.fn.disk).disk_faults ≤ (g.D.Outside.state l.disk).disk_faults;
  port_faults : (g.D.Outside.state l.disk).port_faults ≡ (g.D.Outside.state l.fn.disk).port_faults;
  files : g.D.Outside.tells → (g.D.Outside.state l.disk).files ≡ (g.D.Outside.state l.fn.disk).files;
  reads : g.D.Outside.tells → (g.D.Outside.state l.disk).reads ≡ (g.D.Outside.state l.fn.disk).reads;
  writes : g.D.Outside.tells → (g.D.Outside.state l.disk).writes ≡ (g.D.Outside.state l.fn.disk).writes;
  stable : g.D.Outside.tells → (file : ℕ) → file < l.file → IsStable file (g.D.Outside.state l.disk);
  moments : g.D.Outside.tells → DiskPasses (LeavesNow (g.D.Outside.state l.fn.disk)) (g.D.Outside.state l.fn.disk) (g.D.Outside.state l.disk);
}
