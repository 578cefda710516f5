use Rattle.std.proofs.Common.{◌≡◌, ◌+◌, ◌-◌, ◌≤◌, true, List, [], length}
use Rattle.std.specs.Option.{MatchOption}
use Rattle.ak_base.specs.declared.point.Point.{Point}
use Rattle.ak_cache.specs.Leaves.{KeepsReach}
use Rattle.ak_scene.specs.Scenes.{IsFit}
use Rattle.ak_image.specs.Blocks.{seen_in}
use Rattle.ak_repair.specs.Reads.{OnlyReads}
use Rattle.ak_walk.specs.Walking.{IsAhead}
use Rattle.ak_world.specs.Leaves.{Leaf}
use Rattle.ak_walk.proofs.walking.Walk.go_on.Given as goal

abbrev pub invariant-loop-found : goal.invariant-loop-found
invariant-loop-found g l = record {
  keeps : KeepsReach l.fn.reach l.reach;
  cache : l.reach.cache.now ≡ l.fn.reach.cache.now;
  reads : OnlyReads g.D.Outside.tells (g.D.Outside.state l.fn.reach.disk.now) (g.D.Outside.state l.reach.disk.now);
  begun : l.self.begun ≡ true;
  few : l.self.left ≤ l.e.leaves + 1;
  same : l.self.back ≡ l.fn.self.back;
  ahead : g.D.Outside.tells → (leaves : List Leaf) (written rest : List Point)
      → (fit : IsFit l.fn.reach.volumes.now (seen_in l.fn.reach.volumes.now.volumes (g.D.Outside.state l.fn.reach.disk.now).files) l.e.series l.e.leaves l.e.levels.now leaves written)
      → MatchOption l.e.tail (written ≡ []) (λ tail. tail.now ≡ written)
      → IsAhead (fit.scene.known.leaves - length leaves) l.e.leaves leaves written l.fn.self rest
      → IsAhead (fit.scene.known.leaves - length leaves) l.e.leaves leaves written l.self rest;
}

abbrev pub decreases-loop-found : goal.decreases-loop-found
decreases-loop-found g l = l.self.left
