use Rattle.std.proofs.Common.{◌≡◌, ◌+◌, ◌≤◌}
use Rattle.ak_host.specs.Files.{file_at}
use Rattle.ak_host.specs.Moments.{DiskPasses}
use Rattle.ak_host.specs.Calls.{Follows}
use Rattle.ak_gate.specs.Fits.{Fits, Stands, SameElsewhere}
use Rattle.ak_gate.specs.Slots.{body_at, other}
use Rattle.ak_checkpoint.proofs.Bodies.{IsWritten}
use Rattle.ak_checkpoint.proofs.frame.write_body.Given as goal

abbrev pub invariant-loop-i : goal.invariant-loop-i
invariant-loop-i g l = record {
  gate : l.gate ≡ l.fn.gate;
  sizes : (g.D.Outside.state l.disk).sizes ≡ (g.D.Outside.state l.fn.disk).sizes;
  later : (g.D.Outside.state l.fn.disk).disk_faults ≤ (g.D.Outside.state l.disk).disk_faults;
  port_faults : (g.D.Outside.state l.disk).port_faults ≡ (g.D.Outside.state l.fn.disk).port_faults;
  fits : g.D.Outside.tells → Fits l.gate (g.D.Outside.state l.disk);
  written : g.D.Outside.tells → IsWritten l.frame (body_at l.fn.gate.slot (other l.fn.gate.newest) (file_at (g.D.Outside.state l.disk).files 0)) l.i;
  moments : g.D.Outside.tells → DiskPasses (λ left. Stands l.fn.gate (file_at (g.D.Outside.state l.fn.disk).files 0) (file_at left 0)) (g.D.Outside.state l.fn.disk) (g.D.Outside.state l.disk);
  elsewhere : g.D.Outside.tells → SameElsewhere (g.D.Outside.state l.fn.disk).files (g.D.Outside.state l.disk).files;
  elsewhere_left : g.D.Outside.tells → DiskPasses (Follows SameElsewhere (g.D.Outside.state l.fn.disk)) (g.D.Outside.state l.fn.disk) (g.D.Outside.state l.disk);
  reads : g.D.Outside.tells → (g.D.Outside.state l.disk).reads ≡ (g.D.Outside.state l.fn.disk).reads;
  writes : g.D.Outside.tells → (g.D.Outside.state l.disk).writes ≤ (g.D.Outside.state l.fn.disk).writes + l.i;
}
