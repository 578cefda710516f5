use Rattle.std.proofs.Common.{◌≡◌, ◌+◌, ◌-◌, ◌*◌, ◌^◌, ◌<◌, ◌≤◌, List, length, map}
use Rattle.std.specs.List.{AllByRecursion}
use Rattle.ak_base.specs.declared.point.Point.{Point}
use Rattle.ak_cache.specs.Leaves.{KeepsReach}
use Rattle.ak_scene.specs.Scenes.{IsScene}
use Rattle.ak_forest.specs.Tree.{Children}
use Rattle.ak_image.specs.Blocks.{seen_in}
use Rattle.ak_image.specs.Nodes.{reference_of}
use Rattle.ak_image.specs.Trees.{points_between, total_of}
use Rattle.ak_repair.specs.Reads.{OnlyReads}
use Rattle.ak_world.specs.Leaves.{Leaf}
use Rattle.ak_world.specs.Views.{address_of}
use Rattle.ak_walk.proofs.seeking.+sought.Given as goal

abbrev pub decreases-seek_node : goal.decreases-seek_node
decreases-seek_node g l = 3 * l.level

abbrev pub decreases-seek_ref : goal.decreases-seek_ref
decreases-seek_ref g l = 3 * l.level + 1

abbrev pub decreases-seek_refs : goal.decreases-seek_refs
decreases-seek_refs g l = 3 * l.level + 2

abbrev pub invariant-seek_refs-loop-i : goal.invariant-seek_refs-loop-i
invariant-seek_refs-loop-i g l = record {
  keeps : KeepsReach l.fn.reach l.reach;
  cache : l.reach.cache.now ≡ l.fn.reach.cache.now;
  reads : OnlyReads g.D.Outside.tells (g.D.Outside.state l.fn.reach.disk.now) (g.D.Outside.state l.reach.disk.now);
  sought : g.D.Outside.tells → (leaves : List Leaf)
      → (scene : IsScene l.fn.reach.volumes.now (seen_in l.fn.reach.volumes.now.volumes (g.D.Outside.state l.fn.reach.disk.now).files) l.series leaves)
      → Children 32 l.fn.reach.volumes.now.lo (scene.known.leaves - length leaves) (address_of leaves) (total_of leaves) l.level l.first (map reference_of l.refs)
      → (l.first + length l.refs) * 32 ^ l.level ≤ scene.known.leaves
      → AllByRecursion (λ (p : Point). p.ts < l.x) (points_between leaves (l.first * 32 ^ l.level) ((l.first + l.i) * 32 ^ l.level));
}
