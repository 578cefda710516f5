use Rattle.std.proofs.Common.{◌≡◌, ◌≤◌, ◌+◌, ◌-◌, ◌++◌, length, take, drop}
use Rattle.ak_host.specs.Files.{file_at}
use Rattle.ak_gate.specs.Opening.{OnlyRead}
use Rattle.ak_gate.specs.Slots.{joined, body_at, frame_of}
use Rattle.ak_gate.proofs.opening.read_payload.Given as goal

abbrev pub invariant-loop-i : goal.invariant-loop-i
invariant-loop-i g l = record {
  sizes : (g.D.Outside.state l.disk).sizes ≡ (g.D.Outside.state l.fn.disk).sizes;
  later : (g.D.Outside.state l.fn.disk).disk_faults ≤ (g.D.Outside.state l.disk).disk_faults;
  port_faults : (g.D.Outside.state l.disk).port_faults ≡ (g.D.Outside.state l.fn.disk).port_faults;
  short : length l.payload + l.left ≤ l.fn.head.length;
  only : g.D.Outside.tells → OnlyRead (l.i - 1) (g.D.Outside.state l.fn.disk) (g.D.Outside.state l.disk);
  to_come : g.D.Outside.tells →
      l.payload ++ take l.left (joined (drop l.i (body_at l.fn.slot l.fn.half (file_at (g.D.Outside.state l.fn.disk).files 0))))
      ≡ (frame_of (body_at l.fn.slot l.fn.half (file_at (g.D.Outside.state l.fn.disk).files 0))).payload;
}
