use Rattle.std.proofs.Common.{◌≡◌, ◌≢◌, ◌↔◌, ℕ, ◌<◌, ◌≤◌, length, map, take}
use Rattle.std.specs.List.{AllByRecursion}
use Rattle.ak_rows.specs.Starts.{lode_buckets}
use Rattle.ak_rows.specs.Lodes.{IsHad, AreLater}
use Rattle.ak_rows.specs.Feeds.{Moves}
use Rattle.ak_rows.specs.declared.buckets.Next.TheVariants.{Unasked, Ended}
use Rattle.ak_rows.proofs.buckets.ask_each.Given as goal

abbrev pub invariant-loop-i : goal.invariant-loop-i
invariant-loop-i g l =
    (l.i-end ≡ length l.fn.lodes)
    × AreLater l.fn.lodes l.lodes
    × AllByRecursion (λ m. m.next ≢ Unasked) (take l.i l.lodes)
    × (AllByRecursion (IsHad (g.F.Feed.can l.fn.feed)) l.fn.lodes
    → map (lode_buckets (g.F.Feed.buckets l.feed)) l.lodes ≡ map (lode_buckets (g.F.Feed.buckets l.fn.feed)) l.fn.lodes)
    × ((s : ℕ) → AllByRecursion (λ m. m.next ≢ Ended → m.series ≢ s) l.fn.lodes → g.F.Feed.buckets l.feed s ≡ g.F.Feed.buckets l.fn.feed s)
    × ((s : ℕ) → g.F.Feed.can l.feed s ↔ g.F.Feed.can l.fn.feed s)
    × Moves g.F.Feed.asked g.F.Feed.count g.F.Feed.bound g.F.Feed.faults g.F.Feed.damaged l.fn.feed l.feed
