use Rattle.std.proofs.Common.{◌≡◌, ◌+◌, ◌*◌, ◌≤◌}
use Rattle.ak_cache.specs.Leaves.{KeepsReach}
use Rattle.ak_image.specs.Blocks.{seen_in}
use Rattle.ak_levels.specs.Entries.{AreLawful}
use Rattle.ak_repair.specs.Follows.{made_of}
use Rattle.ak_repair.specs.Reads.{OnlyReads}
use Rattle.ak_repair.proofs.Levels.{NoneFrom, RebuiltTo}
use Rattle.ak_repair.proofs.repairing.repair_series.Given as goal

abbrev pub invariant-loop-level : goal.invariant-loop-level
invariant-loop-level g l = record {
  keeps : KeepsReach l.fn.reach l.reach;
  cache : l.reach.cache.now ≡ l.fn.reach.cache.now;
  reads : OnlyReads g.D.Outside.tells (g.D.Outside.state l.fn.reach.disk.now) (g.D.Outside.state l.reach.disk.now);
  count : g.D.Outside.tells → (g.D.Outside.state l.reach.disk.now).reads ≤ (g.D.Outside.state l.fn.reach.disk.now).reads + 31 * l.level;
  made : l.made ≡ made_of l.known.leaves l.level;
  lawful : AreLawful l.known.leaves l.levels;
  none : NoneFrom l.level l.levels;
  rebuilt : g.D.Outside.tells → RebuiltTo (seen_in l.fn.reach.volumes.now.volumes (g.D.Outside.state l.fn.reach.disk.now).files) l.fn.reach.volumes.now l.series l.known l.level l.levels;
}
