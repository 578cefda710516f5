use Rattle.std.proofs.Common.{◌≡◌, List, take, Ok}
use Rattle.ak_host.specs.Files.{Files}
use Rattle.ak_host.specs.Moments.{PortPasses, LeavesNow, mark_now}
use Rattle.ak_meta.specs.Contents.{Content}
use Rattle.ak_run.specs.Sessions.{Session as Stream}
use Rattle.ak_node.specs.Calls.{HasStops, IsSilent}
use Rattle.ak_node.specs.Standing.{AreSessions, InEnds, AfterEnds}
use Rattle.ak_node.proofs.node.tell_ends.Given as goal

abbrev pub invariant-loop-session : goal.invariant-loop-session
invariant-loop-session g l = record {
  stops : (was : Content) → HasStops {T = Unit {0}} g.H.Outside.tells was (g.H.Outside.state l.fn.host) (g.H.Outside.state l.host) (Ok tt);
  silent : g.H.Outside.tells → IsSilent (g.H.Outside.state l.fn.host) (g.H.Outside.state l.host);
  turns : g.H.Outside.tells → (mark_now (g.H.Outside.state l.host)).turns ≡ (mark_now (g.H.Outside.state l.fn.host)).turns;
  reads : g.H.Outside.tells → (g.H.Outside.state l.host).reads ≡ (g.H.Outside.state l.fn.host).reads;
  files : g.H.Outside.tells → (g.H.Outside.state l.host).files ≡ (g.H.Outside.state l.fn.host).files;
  leaves : g.H.Outside.tells → (disk : Files) → LeavesNow (g.H.Outside.state l.host) disk → LeavesNow (g.H.Outside.state l.fn.host) disk;
  told : g.H.Outside.tells → (streams : List Stream) → AreSessions l.sessions streams
      → AfterEnds (take l.session-index streams) (mark_now (g.H.Outside.state l.fn.host)) (mark_now (g.H.Outside.state l.host));
  moments : g.H.Outside.tells → (streams : List Stream) → AreSessions l.sessions streams
      → PortPasses (InEnds streams (mark_now (g.H.Outside.state l.fn.host))) (g.H.Outside.state l.fn.host) (g.H.Outside.state l.host);
}
