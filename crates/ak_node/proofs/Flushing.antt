-- All open leaves are closed, and a view is taken.
use Rattle.std.proofs.Common.{◌≡◌, false, length, sym, subst}
use Rattle.ak_host.specs.Moments.{HostState, DiskPasses}
use Rattle.ak_tree.specs.Storing.{LeavesView}
use Rattle.ak_tree.proofs.Joining.{unless_fresh, unless_goes, from_goes, passes_later, passes_both}
use Rattle.ak_world.specs.Steps.{closed_from, flushed}
use Rattle.ak_world.specs.Worlds.{World, after_view}
use Rattle.ak_world.proofs.Going.{view_goes}

-- while leaves are closed
pub closing_passes : (w : World) (old new : HostState) → DiskPasses (LeavesView w (closed_from (length w.series) 0 w)) old new → DiskPasses (LeavesView w (flushed w)) old new
closing_passes w old new run =
    let all : World = closed_from (length w.series) 0 w in
    passes_later w all (flushed w) old new (unless_goes all after_view view_goes) run

-- and then the view
pub flush_passes : (w : World) (old mid new : HostState) → (closed_from (length w.series) 0 w).worn ≡ false → DiskPasses (LeavesView w (closed_from (length w.series) 0 w)) old mid
    → DiskPasses (LeavesView (closed_from (length w.series) 0 w) (after_view (closed_from (length w.series) 0 w))) mid new → DiskPasses (LeavesView w (flushed w)) old new
flush_passes w old mid new fresh first second =
    let all : World = closed_from (length w.series) 0 w in
    subst (λ (v : World). DiskPasses (LeavesView w v) old new) (sym (unless_fresh all after_view fresh))
    (passes_both w all (after_view all) old mid new (from_goes (length w.series) 0 w) (view_goes all) first second)
