use Rattle.std.proofs.Common.{◌+◌, ◌<◌, ◌∙◌, ap, subst, sym}
use Rattle.ak_host.specs.Moments.{DiskPasses}
use Rattle.ak_meta.specs.Contents.{Content}
use Rattle.ak_tree.specs.Standing.{Trees, KeepsWorn}
use Rattle.ak_tree.specs.Stops.{OnWorn}
use Rattle.ak_tree.specs.Storing.{LeavesView}
use Rattle.ak_volumes.specs.Ordinals.{Ordinals, newest, newest_fill}
use Rattle.ak_world.specs.Worlds.{World}
use Rattle.ak_tree.proofs.Joining.{room_switch}
use Rattle.ak_tree.proofs.Telling.{worn_here}
use Rattle.ak_tree.proofs.Worn.{room_left}
use Rattle.ak_tree.proofs.forest.Forest.make_place.Goals as goal

pub returns-in-Switch-clause-moments : goal.returns-in-Switch-clause-moments
returns-in-Switch-clause-moments g c told w holds =
    let same = c.volumes.ensures ∙ ap (λ (f : Trees). f.meta.ordinals) c.self.view_is ∙ ap (λ (m : Content). m.ordinals) holds.keeps.content_is in
    let over : w.ordinals.blocks < newest_fill w.ordinals + c.args.blocks = subst (λ (o : Ordinals). o.blocks < newest_fill o + c.args.blocks) same c.in-Switch.ensures.0 in
    subst (λ (v : World). DiskPasses (LeavesView w v) (g.D.Outside.state c.args.disk.now) (g.D.Outside.state c.switch.new.disk)) (sym (room_switch w c.args.blocks over)) (c.switch.ensures.moments told w holds)

pub returns-in-Switch-clause-left : goal.returns-in-Switch-clause-left
returns-in-Switch-clause-left g c told w holds =
    let same = c.volumes.ensures ∙ ap (λ (f : Trees). f.meta.ordinals) c.self.view_is ∙ ap (λ (m : Content). m.ordinals) holds.keeps.content_is in
    let over : w.ordinals.blocks < newest_fill w.ordinals + c.args.blocks = subst (λ (o : Ordinals). o.blocks < newest_fill o + c.args.blocks) same c.in-Switch.ensures.0 in
    subst (λ (v : World). OnWorn c.switch.result (λ stop. KeepsWorn v c.switch.new.self)) (sym (room_switch w c.args.blocks over)) (c.switch.ensures.left told w holds)

pub returns-in-Worn-clause-left : goal.returns-in-Worn-clause-left
returns-in-Worn-clause-left g c told w holds =
    let same = c.volumes.ensures ∙ ap (λ (f : Trees). f.meta.ordinals) c.self.view_is in
    let over = subst (λ (o : Ordinals). o.blocks < newest_fill o + c.args.blocks) same c.in-Worn.ensures.0 in
    worn_here c.worn.result (λ s. room_left w c.args.self.now c.args.blocks holds.keeps over (ap newest (sym same) ∙ c.in-Worn.ensures.1))

pub returns-in-Here-clause-becomes : goal.returns-in-Here-clause-becomes
returns-in-Here-clause-becomes g c told found was = was
