use Rattle.std.proofs.Common.{◌≡◌, inl, inr, ◌-◌, ◌^◌, ◌<◌, ◌∙◌, OnOk, ap, sym, subst}
use Rattle.std.proofs.lemmas.Bool.{cases_lt}
use Rattle.ak_host.specs.Moments.{DiskPasses}
use Rattle.ak_host.proofs.Passing.{disk_starts}
use Rattle.ak_tree.specs.Later.{KeepsOrigins}
use Rattle.ak_tree.specs.Standing.{Trees, Holds, Keeps, trees}
use Rattle.ak_tree.specs.Storing.{LeavesView}
use Rattle.ak_volumes.specs.Ordinals.{Ordinals, newest, file_of, switched}
use Rattle.ak_world.specs.Steps.{switch}
use Rattle.std.proofs.lemmas.Result.{on_ok_weaker}
use Rattle.ak_tree.proofs.Becoming.{origins_switched}
use Rattle.ak_tree.proofs.Saved.{trees_switched, switch_holds, switch_leaves}
use Rattle.ak_tree.proofs.Telling.{worn_both}
use Rattle.ak_tree.proofs.Worn.{switch_left}
use Rattle.ak_tree.proofs.forest.Forest.switch.Goals as goal

pub invariant_of-self : goal.invariant_of-self
invariant_of-self g c =
    let m = c.self.inside in
    let below = subst (λ (f : Trees). newest f.meta.ordinals < 2 ^ 32 - 1) (sym c.self.view_is) c.requires.below in
    trees_switched m.meta c.switch.new.self m.pool m.frames.items m.levels m.check m.since c.self.invariant below (c.switch.ensures.switched ∙ ap switched c.volumes_mut.ensures.value)

pub returns-clause-left : goal.returns-clause-left
returns-clause-left g c told w holds =
    let m = c.self.inside in
    let old = g.D.Outside.state c.args.disk.now in
    let f : Trees = trees m.meta m.pool m.frames.items m.levels m.check m.since in
    let h : Trees = trees (record m.meta { ordinals = c.switch.new.self }) m.pool m.frames.items m.levels m.check m.since in
    let below = subst (λ (f : Trees). newest f.meta.ordinals < 2 ^ 32 - 1) (sym c.self.view_is) c.requires.below in
    let begun : h ≡ record f { meta = record m.meta { ordinals = switched m.meta.ordinals } } =
    ap (λ (o : Ordinals). trees (record m.meta { ordinals = o }) m.pool m.frames.items m.levels m.check m.since) (c.switch.ensures.switched ∙ ap switched c.volumes_mut.ensures.value) in
    let here = subst (λ (t : Trees). Keeps w t) (sym c.self.view_is) holds.keeps in
    worn_both c.save.result (λ s last same. switch_left w f h c.save.new.self here c.self.invariant.rules_are below begun last.0 same) c.save.ensures.worn c.save.ensures.still

pub returns-clause-after : goal.returns-clause-after
returns-clause-after g c told w holds =
    let m = c.self.inside in
    let old = g.D.Outside.state c.args.disk.now in
    let f : Trees = trees m.meta m.pool m.frames.items m.levels m.check m.since in
    let h : Trees = trees (record m.meta { ordinals = c.switch.new.self }) m.pool m.frames.items m.levels m.check m.since in
    let below = subst (λ (f : Trees). newest f.meta.ordinals < 2 ^ 32 - 1) (sym c.self.view_is) c.requires.below in
    let begun : h ≡ record f { meta = record m.meta { ordinals = switched m.meta.ordinals } } =
    ap (λ (o : Ordinals). trees (record m.meta { ordinals = o }) m.pool m.frames.items m.levels m.check m.since) (c.switch.ensures.switched ∙ ap switched c.volumes_mut.ensures.value) in
    let file_is = subst (λ (f : Trees). c.newest_file-before.result ≡ file_of f.meta.ordinals (newest f.meta.ordinals)) (sym c.self.view_is) c.newest_file-before.ensures in
    switch_holds w f c.newest_file-before.result old (g.D.Outside.state c.save.new.disk) (subst (λ (f : Trees). Holds w f old) (sym c.self.view_is) holds) file_is
    c.self.invariant.rules_are below h begun c.save.result c.save.new.self c.save.ensures.same c.save.ensures.number c.save.ensures.below (c.save.ensures.stored told)

pub returns-clause-moments : goal.returns-clause-moments
returns-clause-moments g c told w holds =
    let m = c.self.inside in
    let old = g.D.Outside.state c.args.disk.now in
    let f : Trees = trees m.meta m.pool m.frames.items m.levels m.check m.since in
    let h : Trees = trees (record m.meta { ordinals = c.switch.new.self }) m.pool m.frames.items m.levels m.check m.since in
    let below = subst (λ (f : Trees). newest f.meta.ordinals < 2 ^ 32 - 1) (sym c.self.view_is) c.requires.below in
    let begun : h ≡ record f { meta = record m.meta { ordinals = switched m.meta.ordinals } } =
    ap (λ (o : Ordinals). trees (record m.meta { ordinals = o }) m.pool m.frames.items m.levels m.check m.since) (c.switch.ensures.switched ∙ ap switched c.volumes_mut.ensures.value) in
    let file_is = subst (λ (f : Trees). c.newest_file-before.result ≡ file_of f.meta.ordinals (newest f.meta.ordinals)) (sym c.self.view_is) c.newest_file-before.ensures in
    elim (cases_lt m.check.number (2 ^ 64 - 1)) [
      | inl least ↦
          switch_leaves w f c.newest_file-before.result old (g.D.Outside.state c.save.new.disk) (subst (λ (f : Trees). Holds w f old) (sym c.self.view_is) holds) file_is
          c.self.invariant.rules_are below h begun least (c.save.ensures.moments told)
      | inr last ↦ subst (λ d. DiskPasses (LeavesView w (switch w)) old (g.D.Outside.state d)) (sym (c.save.ensures.last last)) (disk_starts (LeavesView w (switch w)) old)
    ]

pub returns-clause-becomes : goal.returns-clause-becomes
returns-clause-becomes g c told =
    let m = c.self.inside in
    let old = g.D.Outside.state c.args.disk.now in
    let new = g.D.Outside.state c.save.new.disk in
    let begun = c.switch.ensures.switched ∙ ap switched c.volumes_mut.ensures.value in
    let kept : KeepsOrigins old new m.meta (record m.meta { ordinals = c.switch.new.self }) =
    subst (λ (o : Ordinals). KeepsOrigins old new m.meta (record m.meta { ordinals = o })) (sym begun) (origins_switched old new m.meta (c.save.ensures.elsewhere told)) in
    subst (λ (f : Trees). OnOk c.save.result (KeepsOrigins old new f.meta c.save.new.self.meta)) c.self.view_is
    (on_ok_weaker c.save.result (λ same. subst (λ (t : Trees). KeepsOrigins old new m.meta t.meta) (sym same) kept) c.save.ensures.same)
