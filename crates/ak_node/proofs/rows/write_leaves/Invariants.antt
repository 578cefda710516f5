use Rattle.std.proofs.Common.{◌≡◌, ◌≤◌, ◌++◌, length, take}
use Rattle.std.specs.List.{flat_map}
use Rattle.ak_cache.specs.Leaves.{KeepsReach}
use Rattle.ak_image.specs.Blocks.{seen_in}
use Rattle.ak_meta.specs.Contents.{rescue_at}
use Rattle.ak_repair.specs.Reads.{OnlyReads}
use Rattle.ak_repair.specs.Walks.{AreWalked}
use Rattle.ak_run.specs.Replies.{row_text}
use Rattle.ak_world.specs.Leaves.{points_of}
use Rattle.ak_node.proofs.rows.write_leaves.Given as goal

abbrev pub invariant-loop-i : goal.invariant-loop-i
invariant-loop-i g l = record {
  keeps : KeepsReach l.fn.reach l.reach;
  cache : l.reach.cache.now ≡ l.fn.reach.cache.now;
  reads : OnlyReads g.D.Outside.tells (g.D.Outside.state l.fn.reach.disk.now) (g.D.Outside.state l.reach.disk.now);
  longer : length l.fn.text ≤ length l.text;
  rows : g.D.Outside.tells
      → (walked : AreWalked (seen_in l.fn.reach.volumes.now.volumes (g.D.Outside.state l.fn.reach.disk.now).files) l.fn.reach.volumes.now l.series l.known.leaves (rescue_at l.known.rescue 0) l.addresses)
      → l.text ≡ l.fn.text ++ flat_map (row_text l.scale l.known.name) (points_of (take l.i walked.leaves));
}
