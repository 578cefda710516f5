use Rattle.std.proofs.Common.{◌≡◌, ◌+◌, ◌≤◌, length}
use Rattle.std.specs.List.{AllByRecursion}
use Rattle.ak_base.specs.declared.point.Addr.{Addr}
use Rattle.ak_cache.specs.Leaves.{KeepsReach}
use Rattle.ak_image.specs.Blocks.{seen_in}
use Rattle.ak_meta.specs.Contents.{rescue_at}
use Rattle.ak_repair.specs.Reads.{OnlyReads}
use Rattle.ak_repair.proofs.Linked.{IsWalking}
use Rattle.ak_volumes.specs.Ordinals.{IsLive}
use Rattle.ak_repair.proofs.walking.live_leaves.Given as goal

abbrev pub invariant-loop-number : goal.invariant-loop-number
invariant-loop-number g l = record {
  keeps : KeepsReach l.fn.reach l.reach;
  cache : l.reach.cache.now ≡ l.fn.reach.cache.now;
  reads : OnlyReads g.D.Outside.tells (g.D.Outside.state l.fn.reach.disk.now) (g.D.Outside.state l.reach.disk.now);
  count : g.D.Outside.tells → (g.D.Outside.state l.reach.disk.now).reads + l.number ≤ (g.D.Outside.state l.fn.reach.disk.now).reads + l.known.leaves;
  live : AllByRecursion (λ (a : Addr). IsLive l.fn.reach.volumes.now a.0) l.addresses.items;
  few : l.number + length l.addresses.items ≡ l.known.leaves;
  walking : g.D.Outside.tells → IsWalking (seen_in l.fn.reach.volumes.now.volumes (g.D.Outside.state l.fn.reach.disk.now).files) l.fn.reach.volumes.now l.series l.known.leaves (rescue_at l.known.rescue 0) l.number l.a.0 l.addresses.items;
}

abbrev pub decreases-loop-number : goal.decreases-loop-number
decreases-loop-number g l = l.number
