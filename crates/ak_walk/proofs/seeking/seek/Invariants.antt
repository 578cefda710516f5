use Rattle.std.proofs.Common.{◌≡◌, ◌-◌, ◌*◌, ◌/◌, ◌^◌, ◌<◌, List}
use Rattle.std.specs.List.{AllByRecursion}
use Rattle.ak_base.specs.declared.point.Point.{Point}
use Rattle.ak_cache.specs.Leaves.{KeepsReach}
use Rattle.ak_scene.specs.Scenes.{IsFit}
use Rattle.ak_image.specs.Blocks.{seen_in}
use Rattle.ak_image.specs.Trees.{points_between}
use Rattle.ak_repair.specs.Reads.{OnlyReads}
use Rattle.ak_world.specs.Leaves.{Leaf}
use Rattle.ak_walk.proofs.seeking.seek.Given as goal

abbrev pub invariant-loop-below : goal.invariant-loop-below
invariant-loop-below g l = record {
  keeps : KeepsReach l.fn.reach l.reach;
  cache : l.reach.cache.now ≡ l.fn.reach.cache.now;
  reads : OnlyReads g.D.Outside.tells (g.D.Outside.state l.fn.reach.disk.now) (g.D.Outside.state l.reach.disk.now);
  sought : g.D.Outside.tells → (leaves : List Leaf) (written : List Point)
      → IsFit l.fn.reach.volumes.now (seen_in l.fn.reach.volumes.now.volumes (g.D.Outside.state l.fn.reach.disk.now).files) l.e.series l.e.leaves l.e.levels.now leaves written
      → AllByRecursion (λ (p : Point). p.ts < l.x) (points_between leaves 0 (l.e.leaves / 32 ^ (11 - l.below) * 32 ^ (11 - l.below)));
}
