use Rattle.std.proofs.Common.{◌≡◌, suc, ◌+◌, ◌-◌, ◌*◌, ◌^◌, ◌≤◌, List, length, map, Ok}
use Rattle.ak_base.specs.declared.point.Point.{Point}
use Rattle.ak_cache.specs.Leaves.{KeepsReach}
use Rattle.ak_fold.specs.Folded.{AreUpTo, IsFolded}
use Rattle.ak_scene.specs.Scenes.{IsScene}
use Rattle.ak_forest.specs.Tree.{Children}
use Rattle.ak_image.specs.Blocks.{seen_in}
use Rattle.ak_image.specs.Nodes.{reference_of}
use Rattle.ak_image.specs.Trees.{points_between, total_of}
use Rattle.ak_repair.specs.Reads.{OnlyReads}
use Rattle.ak_select.specs.Costs.{borders}
use Rattle.ak_select.specs.Windows.{summed}
use Rattle.ak_world.specs.Leaves.{Leaf}
use Rattle.ak_world.specs.Views.{address_of}
use Rattle.ak_fold.proofs.folding.+nodes.Given as goal

abbrev pub decreases-fold_node : goal.decreases-fold_node
decreases-fold_node g l = 3 * l.level

abbrev pub decreases-fold_ref : goal.decreases-fold_ref
decreases-fold_ref g l = 3 * l.level + 1

abbrev pub decreases-fold_refs : goal.decreases-fold_refs
decreases-fold_refs g l = 3 * l.level + 2

abbrev pub invariant-fold_refs-loop-i : goal.invariant-fold_refs-loop-i
invariant-fold_refs-loop-i g l = record {
  keeps : KeepsReach l.fn.reach l.reach;
  cache : l.reach.cache.now ≡ l.fn.reach.cache.now;
  reads : OnlyReads g.D.Outside.tells (g.D.Outside.state l.fn.reach.disk.now) (g.D.Outside.state l.reach.disk.now);
  up_to : AreUpTo (2016 * ((l.first + l.i) * 32 ^ l.level)) l.all;
  folded : g.D.Outside.tells → (leaves : List Leaf)
      → (scene : IsScene l.fn.reach.volumes.now (seen_in l.fn.reach.volumes.now.volumes (g.D.Outside.state l.fn.reach.disk.now).files) l.asked.series leaves)
      → Children 32 l.fn.reach.volumes.now.lo (scene.known.leaves - length leaves) (address_of leaves) (total_of leaves) l.level l.first (map reference_of l.refs)
      → (l.first + length l.refs) * 32 ^ l.level ≤ scene.known.leaves
      → (before : List Point) → l.fn.so_far ≡ summed before
      → IsFolded l.asked.window l.asked.filter before (points_between leaves (l.first * 32 ^ l.level) ((l.first + l.i) * 32 ^ l.level))
      (suc l.level * borders l.asked.window (scene.known.leaves - length leaves) (points_between leaves) (l.first * 32 ^ l.level) ((l.first + l.i) * 32 ^ l.level))
      (g.D.Outside.state l.fn.reach.disk.now) (g.D.Outside.state l.reach.disk.now) (Ok l.all);
}
