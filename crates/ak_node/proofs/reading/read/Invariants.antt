use Rattle.std.proofs.Common.{◌≡◌, ◌-◌, ◌≤◌, ◌++◌, length, take}
use Rattle.ak_host.specs.Moments.{Passes, mark_now}
use Rattle.ak_node.specs.Calls.{IsSilent}
use Rattle.ak_node.specs.Pieces.{Begun, ReadsOn, InPiece, LeavesInPiece}
use Rattle.ak_node.specs.Queries.{AreNoQueries}
use Rattle.ak_node.specs.Standing.{IsReady}
use Rattle.ak_tree.specs.Later.{KeepsOrigins}
use Rattle.ak_node.proofs.reading.read.Given as goal

abbrev pub invariant-loop : goal.invariant-loop
invariant-loop g l = record {
  within : l.at ≤ length l.piece;
  disk_later : (g.H.Outside.state l.fn.host).disk_faults ≤ (g.H.Outside.state l.host).disk_faults;
  port_later : (g.H.Outside.state l.fn.host).port_faults ≤ (g.H.Outside.state l.host).port_faults;
  sizes : (g.H.Outside.state l.host).sizes ≡ (g.H.Outside.state l.fn.host).sizes;
  port : l.session.port ≡ l.fn.session.port;
  silent : g.H.Outside.tells → IsSilent (g.H.Outside.state l.fn.host) (g.H.Outside.state l.host);
  turns : g.H.Outside.tells → (mark_now (g.H.Outside.state l.host)).turns ≡ (mark_now (g.H.Outside.state l.fn.host)).turns;
  becomes : g.H.Outside.tells → KeepsOrigins (g.H.Outside.state l.fn.host) (g.H.Outside.state l.host) l.fn.keeper.forest.meta l.keeper.forest.meta;
  ready : IsReady g.H.Outside.tells l.keeper (g.H.Outside.state l.host);
  reads : g.H.Outside.tells → (begun : Begun) → ReadsOn begun l.fn.keeper l.fn.session begun.stream (mark_now (g.H.Outside.state l.fn.host)) (g.H.Outside.state l.fn.host)
      → ReadsOn begun l.keeper l.session (begun.stream ++ take l.at l.piece) (mark_now (g.H.Outside.state l.host)) (g.H.Outside.state l.host);
  queries : g.H.Outside.tells → (begun : Begun) → ReadsOn begun l.fn.keeper l.fn.session begun.stream (mark_now (g.H.Outside.state l.fn.host)) (g.H.Outside.state l.fn.host)
      → AreNoQueries begun.stream l.piece → (g.H.Outside.state l.host).reads ≡ (g.H.Outside.state l.fn.host).reads;
  moments : g.H.Outside.tells → (begun : Begun) → ReadsOn begun l.fn.keeper l.fn.session begun.stream (mark_now (g.H.Outside.state l.fn.host)) (g.H.Outside.state l.fn.host)
      → Passes (InPiece begun l.piece) (LeavesInPiece begun l.piece) (g.H.Outside.state l.fn.host) (g.H.Outside.state l.host);
}

abbrev pub decreases-loop : goal.decreases-loop
decreases-loop g l = length l.piece - l.at
