use Rattle.std.proofs.Common.{◌≡◌, ◌-◌, ◌*◌, ◌/◌, ◌^◌, List, [], length, Ok}
use Rattle.ak_base.specs.declared.point.Point.{Point}
use Rattle.ak_cache.specs.Leaves.{KeepsReach}
use Rattle.ak_fold.specs.Folded.{AreUpTo, IsFolded}
use Rattle.ak_scene.specs.Scenes.{IsFit}
use Rattle.ak_image.specs.Blocks.{seen_in}
use Rattle.ak_image.specs.Trees.{points_between}
use Rattle.ak_repair.specs.Reads.{OnlyReads}
use Rattle.ak_select.specs.Costs.{borders}
use Rattle.ak_world.specs.Leaves.{Leaf}
use Rattle.ak_fold.proofs.whole.fold.Given as goal

abbrev pub invariant-loop-below : goal.invariant-loop-below
invariant-loop-below g l = record {
  keeps : KeepsReach l.fn.reach l.reach;
  cache : l.reach.cache.now ≡ l.fn.reach.cache.now;
  reads : OnlyReads g.D.Outside.tells (g.D.Outside.state l.fn.reach.disk.now) (g.D.Outside.state l.reach.disk.now);
  up_to : AreUpTo (2016 * (l.e.leaves / 32 ^ (11 - l.below) * 32 ^ (11 - l.below))) l.all;
  folded : g.D.Outside.tells → (leaves : List Leaf) (written : List Point)
      → (fit : IsFit l.fn.reach.volumes.now (seen_in l.fn.reach.volumes.now.volumes (g.D.Outside.state l.fn.reach.disk.now).files) l.e.series l.e.leaves l.e.levels.now leaves written)
      → IsFolded l.asked.window l.asked.filter [] (points_between leaves 0 (l.e.leaves / 32 ^ (11 - l.below) * 32 ^ (11 - l.below)))
      (11 * borders l.asked.window (fit.scene.known.leaves - length leaves) (points_between leaves) 0 (l.e.leaves / 32 ^ (11 - l.below) * 32 ^ (11 - l.below)))
      (g.D.Outside.state l.fn.reach.disk.now) (g.D.Outside.state l.reach.disk.now) (Ok l.all);
}
