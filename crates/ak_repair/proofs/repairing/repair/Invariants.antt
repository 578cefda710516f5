use Rattle.std.proofs.Common.{◌≡◌, ◌+◌, ◌*◌, ◌≤◌, List}
use Rattle.ak_cache.specs.Leaves.{KeepsReach}
use Rattle.ak_image.specs.Blocks.{seen_in}
use Rattle.ak_image.specs.Laid.{IsLaid}
use Rattle.ak_repair.specs.Reads.{OnlyReads}
use Rattle.ak_repair.proofs.Planting.{LawfulTo, PlantedTo, RebuiltUpTo}
use Rattle.ak_world.specs.Leaves.{Leaf}
use Rattle.ak_repair.proofs.repairing.repair.Given as goal

abbrev pub invariant-loop-series : goal.invariant-loop-series
invariant-loop-series g l = record {
  keeps : KeepsReach l.fn.reach l.reach;
  cache : l.reach.cache.now ≡ l.fn.reach.cache.now;
  reads : OnlyReads g.D.Outside.tells (g.D.Outside.state l.fn.reach.disk.now) (g.D.Outside.state l.reach.disk.now);
  count : g.D.Outside.tells → (g.D.Outside.state l.reach.disk.now).reads ≤ (g.D.Outside.state l.fn.reach.disk.now).reads + 341 * l.series;
  lawful : LawfulTo l.meta.series l.series l.all;
  rebuilt : g.D.Outside.tells → RebuiltUpTo (seen_in l.meta.ordinals.volumes (g.D.Outside.state l.fn.reach.disk.now).files) l.meta.ordinals l.meta.series l.series l.all;
  planted : g.D.Outside.tells → (kept : List (List Leaf)) → IsLaid (seen_in l.meta.limits.volumes (g.D.Outside.state l.fn.reach.disk.now).files) l.meta kept
      → PlantedTo l.meta.ordinals (seen_in l.meta.limits.volumes (g.D.Outside.state l.fn.reach.disk.now).files) l.meta.series kept l.series l.all;
}
