use Rattle.std.proofs.Common.{◌≡◌, ◌∙◌, ◌+◌, ◌*◌, List, ◌++◌, length, ap, arith}
use Rattle.ak_base.specs.declared.point.Point.{Point}
use Rattle.ak_base.specs.declared.stop.Stop.{Stop}
use Rattle.ak_base.specs.declared.stop.Stop.TheVariants.{Disk}
use Rattle.ak_cache.specs.Leaves.{SpellsNone}
use Rattle.ak_scene.proofs.InScene.{leaf_points, leaf_spelled}
use Rattle.ak_fold.proofs.OnePoint.{up_to_more}
use Rattle.ak_scene.proofs.Stopped.{node_stop, only_disk, no_value}
use Rattle.ak_scene.specs.Scenes.{IsUnspelled}
use Rattle.ak_image.specs.Blocks.{seen_in}
use Rattle.ak_repair.proofs.OnlyReading.{stop_from}
use Rattle.ak_repair.proofs.ReadNodes.{none_leaf}
use Rattle.ak_select.specs.Windows.{chosen, summed}
use Rattle.ak_fold.proofs.folding.fold_leaf.Goals as goal

pub returns-in_err-leaf-clause-stops : goal.returns-in_err-leaf-clause-stops
returns-in_err-leaf-clause-stops g c count v reached =
    let o = c.args.reach.now.volumes.now in
    let old = g.D.Outside.state c.args.reach.now.disk.now in
    let new = g.D.Outside.state c.leaf.new.self.disk.now in
    stop_from _ c.from_residual.result c.in_err-leaf.field-0.0 c.from_residual.ensures.1
    (node_stop {P = λ file block. g.D.Outside.tells → IsUnspelled o (seen_in o.volumes old.files) c.args.asked.series count v file block}
    (λ block. SpellsNone block c.args.a c.args.asked.series c.args.number) o old new c.args.a c.in_err-leaf.field-0.0
    (λ file block file_is block_is none told. record {
      level = 0;
      number = c.args.number;
      at = c.args.a.0;
      reached = reached told;
      live = c.requires.live;
      file_is = file_is;
      block_is = block_is;
      none = none_leaf (seen_in o.volumes old.files) c.args.a c.args.asked.series c.args.number (none told);
    })
    c.in_err-leaf.ensures.err)

pub returns-in_err-leaf-clause-folded : goal.returns-in_err-leaf-clause-folded
returns-in_err-leaf-clause-folded g c told leaves scene at from to before is =
    let o = c.args.reach.now.volumes.now in
    let old = g.D.Outside.state c.args.reach.now.disk.now in
    let new = g.D.Outside.state c.leaf.new.self.disk.now in
    record {
      value = no_value _ _ c.from_residual.result c.from_residual.ensures.1;
      sound = stop_from (λ (stop : Stop). stop ≡ Disk) c.from_residual.result c.in_err-leaf.field-0.0 c.from_residual.ensures.1
          (only_disk (λ block. SpellsNone block c.args.a c.args.asked.series c.args.number) o old new c.args.a c.in_err-leaf.field-0.0 told
          (leaf_spelled o (seen_in o.volumes old.files) c.args.asked.series leaves scene c.args.number c.args.a at from to) c.in_err-leaf.ensures.err);
      few = λ open_is. (c.in_err-leaf.ensures.reads told).at_most;
    }

pub returns-clause-up_to : goal.returns-clause-up_to
returns-clause-up_to g c =
    let same : length c.points.result.now ≡ length c.leaf.new.self.scratch.now = ap (λ (ps : List Point). length ps) c.points.ensures.points in
    up_to_more (2016 * c.args.number + length c.points.result.now) (2016 * (c.args.number + 1)) c.with_points.result (omega (arith, same, c.points.ensures.most))
    (c.with_points.ensures.up_to (2016 * c.args.number) c.requires.up_to)

pub returns-clause-folded : goal.returns-clause-folded
returns-clause-folded g c told leaves scene at from to before is =
    let o = c.args.reach.now.volumes.now in
    let old = g.D.Outside.state c.args.reach.now.disk.now in
    let same : c.points.result.now ≡ _ = c.points.ensures.points
    ∙ leaf_points o (seen_in o.volumes old.files) c.args.asked.series leaves scene c.args.number c.args.a c.in_ok-leaf.field-0 c.leaf.new.self.scratch.now at from to (c.in_ok-leaf.ensures.found told) in
    record {
      value = c.with_points.ensures.is before is ∙ ap (λ (ps : List Point). summed (before ++ chosen c.args.asked.window c.args.asked.filter ps)) same;
      sound = tt;
      few = λ open_is. (c.in_ok-leaf.ensures.reads told).at_most;
    }
