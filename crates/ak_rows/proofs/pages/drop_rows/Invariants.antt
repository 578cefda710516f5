use Rattle.std.proofs.Common.{◌≡◌, ◌↔◌, ℕ, drop}
use Rattle.ak_rows.specs.Feeds.{Moves}
use Rattle.ak_rows.specs.Starts.{lists}
use Rattle.ak_rows.specs.Tracks.{AreAllLater, AreAllHad, AreAllInOrder, HavePassed, select_rows}
use Rattle.ak_rows.proofs.pages.drop_rows.Given as goal

abbrev pub invariant-loop-skip : goal.invariant-loop-skip
invariant-loop-skip g l = record {
  later : AreAllLater (lists l.fn.tracks) (lists l.tracks);
  rows : AreAllHad (g.F.Feed.can l.fn.feed) (lists l.fn.tracks) → AreAllInOrder l.back (g.F.Feed.points l.fn.feed) (lists l.fn.tracks)
      → drop l.fn.skip (select_rows l.back (g.F.Feed.points l.fn.feed) (lists l.fn.tracks)) ≡ drop l.skip (select_rows l.back (g.F.Feed.points l.feed) (lists l.tracks));
  order : AreAllHad (g.F.Feed.can l.fn.feed) (lists l.fn.tracks) → AreAllInOrder l.back (g.F.Feed.points l.fn.feed) (lists l.fn.tracks)
      → AreAllInOrder l.back (g.F.Feed.points l.feed) (lists l.tracks);
  passed : HavePassed l.at (lists l.tracks);
  can : (s : ℕ) → g.F.Feed.can l.feed s ↔ g.F.Feed.can l.fn.feed s;
  moves : Moves g.F.Feed.asked g.F.Feed.count g.F.Feed.bound g.F.Feed.faults g.F.Feed.damaged l.fn.feed l.feed;
}

abbrev pub decreases-loop-skip : goal.decreases-loop-skip
decreases-loop-skip g l = l.skip
