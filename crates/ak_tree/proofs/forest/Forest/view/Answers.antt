use Rattle.std.proofs.Common.{inl, inr, ◌-◌, ◌^◌, ◌≤◌, arith, sym, subst}
use Rattle.std.proofs.lemmas.Bool.{cases_lt}
use Rattle.ak_host.specs.Moments.{DiskPasses}
use Rattle.ak_host.proofs.Passing.{disk_starts}
use Rattle.ak_tree.specs.Standing.{Trees}
use Rattle.ak_tree.specs.Storing.{LeavesView}
use Rattle.ak_volumes.specs.Ordinals.{newest, file_of}
use Rattle.ak_world.specs.Worlds.{after_view}
use Rattle.ak_tree.proofs.Saved.{newest_among, view_holds, view_leaves, view_told}
use Rattle.ak_tree.proofs.Telling.{worn_both, worn_weaker}
use Rattle.ak_tree.proofs.Worn.{view_left}
use Rattle.std.proofs.lemmas.Result.{on_ok_weaker}
use Rattle.ak_tree.specs.Later.{KeepsOrigins}
use Rattle.ak_tree.proofs.Becoming.{origins_saved}
use Rattle.ak_tree.proofs.forest.Forest.view.Goals as goal

pub save-requires-clause-among : goal.save-requires-clause-among
save-requires-clause-among g c =
    let most = subst (λ (f : Trees). file_of f.meta.ordinals (newest f.meta.ordinals) ≤ f.meta.limits.volumes) c.self.view_is (newest_among c.self.inside.meta c.self.invariant.rules_are) in
    omega (arith, most, c.newest_file-file.ensures)

pub returns-clause-worn : goal.returns-clause-worn
returns-clause-worn g c told w holds = worn_weaker c.save.result (λ s last. view_told w c.args.self.now s holds.keeps last) c.save.ensures.worn

pub returns-clause-left : goal.returns-clause-left
returns-clause-left g c told w holds = worn_both c.save.result (λ s last same. view_left w c.args.self.now c.save.new.self holds.keeps last.0 same) c.save.ensures.worn c.save.ensures.still

pub returns-clause-after : goal.returns-clause-after
returns-clause-after g c told w holds =
    view_holds w c.args.self.now c.newest_file-file.result (g.D.Outside.state c.args.disk.now) (g.D.Outside.state c.save.new.disk) holds c.newest_file-file.ensures
    c.save.result c.save.new.self c.save.ensures.same c.save.ensures.number c.save.ensures.below (c.save.ensures.stored told)

pub returns-clause-moments : goal.returns-clause-moments
returns-clause-moments g c told w holds =
    let old = g.D.Outside.state c.args.disk.now in
    elim (cases_lt c.args.self.now.check.number (2 ^ 64 - 1)) [
      | inl below ↦ view_leaves w c.args.self.now c.newest_file-file.result old (g.D.Outside.state c.save.new.disk) holds c.newest_file-file.ensures below (c.save.ensures.moments told)
      | inr last ↦ subst (λ d. DiskPasses (LeavesView w (after_view w)) old (g.D.Outside.state d)) (sym (c.save.ensures.last last)) (disk_starts (LeavesView w (after_view w)) old)
    ]

pub returns-clause-becomes : goal.returns-clause-becomes
returns-clause-becomes g c told =
    let old = g.D.Outside.state c.args.disk.now in
    let new = g.D.Outside.state c.save.new.disk in
    let m = c.args.self.now.meta in
    on_ok_weaker c.save.result (λ same. subst (λ (t : Trees). KeepsOrigins old new m t.meta) (sym same) (origins_saved old new m (c.save.ensures.elsewhere told))) c.save.ensures.same
