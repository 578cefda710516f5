use Rattle.std.proofs.Common.{◌≡◌, ◌≤◌, ◌++◌, length, take}
use Rattle.std.specs.List.{flat_map}
use Rattle.ak_repair.specs.Reads.{OnlyReads}
use Rattle.ak_node.specs.Standing.{Holds}
use Rattle.ak_run.specs.Replies.{series_rows}
use Rattle.ak_world.specs.Worlds.{World as Store, limits_of}
use Rattle.ak_node.proofs.rows.write_metric.Given as goal

abbrev pub invariant-loop-series : goal.invariant-loop-series
invariant-loop-series g l = record {
  forest : l.keeper.forest ≡ l.fn.keeper.forest;
  names : l.keeper.names ≡ l.fn.keeper.names;
  reads : OnlyReads g.D.Outside.tells (g.D.Outside.state l.fn.disk) (g.D.Outside.state l.disk);
  longer : length l.fn.text ≤ length l.text;
  rows : g.D.Outside.tells → (content : Store) → Holds content l.fn.keeper (g.D.Outside.state l.fn.disk)
      → l.text ≡ l.fn.text ++ flat_map (series_rows (limits_of content).scale content.ordinals.lo l.metric) (take l.series content.series);
}
