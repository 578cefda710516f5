use Rattle.std.proofs.Common.{ℕ, OnOk, ◌∙◌, ap, sym, subst}
use Rattle.ak_host.specs.Moments.{DiskPasses}
use Rattle.ak_meta.specs.Leaves.{leaves_at}
use Rattle.ak_tree.specs.Standing.{Trees, Holds, KeepsWorn, OpensLevel, trees}
use Rattle.ak_tree.specs.Stops.{IsWornBy, OnWorn}
use Rattle.ak_tree.specs.Storing.{LeavesView}
use Rattle.ak_world.specs.Steps.{closed}
use Rattle.ak_tree.proofs.Appended.{IsLastUsed, last_oldest, last_used, oldest_series, opened_by}
use Rattle.ak_tree.proofs.Telling.{memory_weaker}
use Rattle.ak_tree.proofs.forest.Forest.close_oldest.Goals as goal

pub series-series-requires : goal.series-series-requires
series-series-requires g c = (last_oldest c.self.inside.pool.count c.self.inside.pool.used c.in-Some.frame.0 c.in-Some.ensures.valid.numbered c.in-Some.ensures.last).used

pub close_leaf-requires-clause-known : goal.close_leaf-requires-clause-known
close_leaf-requires-clause-known g c =
    let m = c.self.inside in
    (opened_by (trees m.meta m.pool m.frames.items m.levels m.check m.since) c.args.self.now c.series-series.result c.in-Some.frame.0 c.self.view_is c.self.invariant c.in-Some.ensures.valid c.in-Some.ensures.last c.series-series.ensures).known

pub close_leaf-requires-clause-opened : goal.close_leaf-requires-clause-opened
close_leaf-requires-clause-opened g c =
    let m = c.self.inside in
    (opened_by (trees m.meta m.pool m.frames.items m.levels m.check m.since) c.args.self.now c.series-series.result c.in-Some.frame.0 c.self.view_is c.self.invariant c.in-Some.ensures.valid c.in-Some.ensures.last c.series-series.ensures).opened

pub returns-clause-worn : goal.returns-clause-worn
returns-clause-worn g c told w holds =
    let m = c.self.inside in
    let is = oldest_series w (trees m.meta m.pool m.frames.items m.levels m.check m.since) c.args.self.now c.series-series.result c.in-Some.frame.0 holds.keeps c.self.view_is c.in-Some.ensures.valid c.in-Some.ensures.last c.series-series.ensures in
    subst (λ (n : ℕ). OnWorn c.close_leaf.result (IsWornBy (closed w n))) is (c.close_leaf.ensures.worn told w holds)

pub returns-clause-left : goal.returns-clause-left
returns-clause-left g c told w holds =
    let m = c.self.inside in
    let is = oldest_series w (trees m.meta m.pool m.frames.items m.levels m.check m.since) c.args.self.now c.series-series.result c.in-Some.frame.0 holds.keeps c.self.view_is c.in-Some.ensures.valid c.in-Some.ensures.last c.series-series.ensures in
    subst (λ (n : ℕ). OnWorn c.close_leaf.result (λ stop. KeepsWorn (closed w n) c.close_leaf.new.self)) is (c.close_leaf.ensures.left told w holds)

pub returns-clause-after : goal.returns-clause-after
returns-clause-after g c told w holds =
    let m = c.self.inside in
    let is = oldest_series w (trees m.meta m.pool m.frames.items m.levels m.check m.since) c.args.self.now c.series-series.result c.in-Some.frame.0 holds.keeps c.self.view_is c.in-Some.ensures.valid c.in-Some.ensures.last c.series-series.ensures in
    subst (λ (n : ℕ). OnOk c.close_leaf.result (Holds (closed w n) c.close_leaf.new.self (g.D.Outside.state c.close_leaf.new.disk))) is (c.close_leaf.ensures.after told w holds)

pub returns-clause-moments : goal.returns-clause-moments
returns-clause-moments g c told w holds =
    let m = c.self.inside in
    let is = oldest_series w (trees m.meta m.pool m.frames.items m.levels m.check m.since) c.args.self.now c.series-series.result c.in-Some.frame.0 holds.keeps c.self.view_is c.in-Some.ensures.valid c.in-Some.ensures.last c.series-series.ensures in
    subst (λ (n : ℕ). DiskPasses (LeavesView w (closed w n)) (g.D.Outside.state c.args.disk.now) (g.D.Outside.state c.close_leaf.new.disk)) is (c.close_leaf.ensures.moments told w holds)

pub returns-clause-memory : goal.returns-clause-memory
returns-clause-memory g c =
    let m = c.self.inside in
    let last : IsLastUsed m.pool.used c.in-Some.frame.0 = last_used m.pool.count m.pool.used c.in-Some.frame.0 c.in-Some.ensures.valid.numbered c.in-Some.ensures.last in
    memory_weaker c.close_leaf.result (λ opens. (
      last.front,
      last.last,
      ap (λ (t : Trees). t.pool.used) (sym c.self.view_is) ∙ last.is,
      subst (λ (n : ℕ). OpensLevel (leaves_at c.args.self.now.meta.series n)) (c.series-series.ensures ∙ last.series) opens,
    )) c.close_leaf.ensures.memory
