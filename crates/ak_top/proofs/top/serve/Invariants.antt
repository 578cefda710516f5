use Rattle.std.proofs.Common.{◌≡◌, ◌≤◌, None}
use Rattle.ak_host.specs.Moments.{Passes, mark_now}
use Rattle.ak_world.specs.Views.{View}
use Rattle.ak_node.specs.Calls.{IsSilent}
use Rattle.ak_top.specs.Kept.{IsKept}
use Rattle.ak_run.specs.Run.{world_of}
use Rattle.ak_node.specs.Standing.{CanServe, Stands}
use Rattle.ak_top.specs.Told.{IsQuiet}
use Rattle.ak_top.specs.Turns.{TurnsSince}
use Rattle.ak_top.proofs.Runs.{Running}
use Rattle.ak_top.proofs.Turning.{AreSoFar}
use Rattle.ak_tree.specs.Later.{KeepsOrigins}
use Rattle.ak_top.proofs.top.serve.Given as goal

abbrev pub invariant-loop-turn : goal.invariant-loop-turn
invariant-loop-turn g l = record {
  disk_later : (g.H.Outside.state l.fn.host).disk_faults ≤ (g.H.Outside.state l.host).disk_faults;
  port_later : (g.H.Outside.state l.fn.host).port_faults ≤ (g.H.Outside.state l.host).port_faults;
  silent : g.H.Outside.tells → IsSilent (g.H.Outside.state l.fn.host) (g.H.Outside.state l.host);
  sizes : (g.H.Outside.state l.host).sizes ≡ (g.H.Outside.state l.fn.host).sizes;
  turns : g.H.Outside.tells → TurnsSince (AreSoFar l._turn) (mark_now (g.H.Outside.state l.fn.host)) (mark_now (g.H.Outside.state l.host));
  fresh : l.node.stop ≡ None;
  becomes : g.H.Outside.tells → KeepsOrigins (g.H.Outside.state l.fn.host) (g.H.Outside.state l.host) l.fn.node.keeper.forest.meta l.node.keeper.forest.meta;
  ready : CanServe g.H.Outside.tells l.node (g.H.Outside.state l.host);
  running : g.H.Outside.tells → (view : View) → Stands l.fn.node (world_of view) (g.H.Outside.state l.fn.host)
      → Running view (mark_now (g.H.Outside.state l.fn.host)) (mark_now (g.H.Outside.state l.host)) l.node (g.H.Outside.state l.host) l._turn;
  moments : g.H.Outside.tells → (view : View) → Stands l.fn.node (world_of view) (g.H.Outside.state l.fn.host)
      → Passes (IsQuiet view (mark_now (g.H.Outside.state l.fn.host))) (IsKept view (mark_now (g.H.Outside.state l.fn.host))) (g.H.Outside.state l.fn.host) (g.H.Outside.state l.host);
}
