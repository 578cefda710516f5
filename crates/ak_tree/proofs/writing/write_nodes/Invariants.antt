use Rattle.std.proofs.Common.{◌≡◌, ◌+◌, ◌/◌, ◌^◌, ◌≤◌}
use Rattle.ak_host.specs.Moments.{DiskPasses}
use Rattle.ak_levels.specs.Closes.{raised, emptied}
use Rattle.ak_levels.specs.Entries.{IsTally}
use Rattle.ak_tree.specs.Writing.{IsOutside, AreNodeBlocks, LeavesOutside}
use Rattle.ak_tree.proofs.writing.write_nodes.Given as goal

abbrev pub invariant-loop-level : goal.invariant-loop-level
invariant-loop-level g l = record {
  sizes : (g.D.Outside.state l.disk).sizes ≡ (g.D.Outside.state l.fn.disk).sizes;
  later : (g.D.Outside.state l.fn.disk).disk_faults ≤ (g.D.Outside.state l.disk).disk_faults;
  port_faults : (g.D.Outside.state l.disk).port_faults ≡ (g.D.Outside.state l.fn.disk).port_faults;
  emptied_is : l.levels ≡ emptied l.fn.levels l.level;
  above_is : l.above ≡ raised l.fn.levels l.group.leaf l.level;
  number_is : l.number ≡ l.group.number / 32 ^ l.level;
  tally : IsTally l.level l.above;
  nodes : g.D.Outside.tells → AreNodeBlocks l.group l.fn.levels l.level l.file l.index (g.D.Outside.state l.disk).files;
  outside : g.D.Outside.tells → IsOutside l.file l.index l.group.others (g.D.Outside.state l.fn.disk).files (g.D.Outside.state l.disk).files;
  reads : g.D.Outside.tells → (g.D.Outside.state l.disk).reads ≡ (g.D.Outside.state l.fn.disk).reads;
  writes : g.D.Outside.tells → (g.D.Outside.state l.disk).writes ≡ (g.D.Outside.state l.fn.disk).writes + l.level;
  moments : g.D.Outside.tells → DiskPasses (LeavesOutside l.file l.index l.group.others (g.D.Outside.state l.fn.disk)) (g.D.Outside.state l.fn.disk) (g.D.Outside.state l.disk);
}
