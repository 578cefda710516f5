use Rattle.std.proofs.Common.{◌≡◌, ◌≢◌, ◌↔◌, ℕ, ◌<◌, ◌≤◌, length, map, take}
use Rattle.std.specs.List.{AllByRecursion}
use Rattle.ak_rows.specs.Ahead.{lane_points, IsHad, AreLater}
use Rattle.ak_rows.specs.Feeds.{Moves}
use Rattle.ak_rows.specs.declared.points.Head.TheVariants.{Unasked, Ended}
use Rattle.ak_rows.proofs.points.ask_all.Given as goal

abbrev pub invariant-loop-i : goal.invariant-loop-i
invariant-loop-i g l =
    (l.i-end ≡ length l.fn.lanes)
    × AreLater l.fn.lanes l.lanes
    × AllByRecursion (λ m. m.head ≢ Unasked) (take l.i l.lanes)
    × (AllByRecursion (IsHad (g.F.Feed.can l.fn.feed)) l.fn.lanes
    → map (lane_points (g.F.Feed.points l.feed)) l.lanes ≡ map (lane_points (g.F.Feed.points l.fn.feed)) l.fn.lanes)
    × ((s : ℕ) → AllByRecursion (λ m. m.head ≢ Ended → m.series ≢ s) l.fn.lanes → g.F.Feed.points l.feed s ≡ g.F.Feed.points l.fn.feed s)
    × ((s : ℕ) → g.F.Feed.can l.feed s ↔ g.F.Feed.can l.fn.feed s)
    × Moves g.F.Feed.asked g.F.Feed.count g.F.Feed.bound g.F.Feed.faults g.F.Feed.damaged l.fn.feed l.feed
