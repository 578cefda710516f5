use Rattle.std.proofs.Common.{◌≡◌, suc, ◌^◌, List, length, ap, arith}
use Rattle.ak_inner.specs.declared.reference.Ref.{Ref}
use Rattle.ak_base.specs.declared.stop.Stop.{Stop}
use Rattle.ak_base.specs.declared.stop.Stop.TheVariants.{Disk}
use Rattle.ak_cache.specs.Nodes.{SpellsNoInner}
use Rattle.ak_scene.proofs.InScene.{family_of, inner_spelled}
use Rattle.ak_repair.proofs.ReadNodes.{none_inner}
use Rattle.ak_scene.proofs.Reaching.{reached_children}
use Rattle.ak_scene.proofs.Spans.{number_fits, above_fits, tallies_of}
use Rattle.ak_scene.proofs.Stopped.{node_stop, only_disk}
use Rattle.ak_scene.specs.Scenes.{IsUnspelled}
use Rattle.ak_image.specs.Blocks.{seen_in}
use Rattle.ak_repair.proofs.OnlyReading.{stop_from}
use Rattle.ak_scene.proofs.reading.read_refs.Goals as goal

pub returns-in_err-inner-clause-stops : goal.returns-in_err-inner-clause-stops
returns-in_err-inner-clause-stops g c count v reached =
    let o = c.args.reach.now.volumes.now in
    let old = g.D.Outside.state c.args.reach.now.disk.now in
    let new = g.D.Outside.state c.inner.new.self.disk.now in
    stop_from _ c.from_residual.result c.in_err-inner.field-0.0 c.from_residual.ensures.1
    (node_stop {P = λ file block. g.D.Outside.tells → IsUnspelled o (seen_in o.volumes old.files) c.args.series count v file block}
    (λ block. SpellsNoInner block c.args.a c.args.level c.args.series c.args.number) o old new c.args.a c.in_err-inner.field-0.0
    (λ file block file_is block_is none told. record {
      level = c.args.level;
      number = c.args.number;
      at = c.args.a.0;
      reached = reached told;
      live = c.requires.live;
      file_is = file_is;
      block_is = block_is;
      none = none_inner (seen_in o.volumes old.files) c.args.a c.args.level c.args.series c.args.number c.requires.above (none told);
    })
    c.in_err-inner.ensures.err)

pub returns-clause-reached : goal.returns-clause-reached
returns-clause-reached g c count v told reached =
    let o = c.args.reach.now.volumes.now in
    let old = g.D.Outside.state c.args.reach.now.disk.now in
    let head = c.in_ok-inner.field-0 in
    let is = c.in_ok-inner.ensures.spelled.1 in
    let long : length c.refs.result.now ≡ length c.inner.new.into = ap (λ (rs : List Ref). length rs) c.refs.ensures.refs in
    reached_children o (seen_in o.volumes old.files) c.args.series count v c.args.level c.args.number _ c.args.a head c.inner.new.into c.requires.above reached c.requires.live
    (c.in_ok-inner.ensures.found told) is.level_is is.series_is is.number_is is.addr_is (omega (arith, long, c.refs.ensures.most)) (omega (arith, long))

pub returns-in_err-inner-clause-sound : goal.returns-in_err-inner-clause-sound
returns-in_err-inner-clause-sound g c told leaves scene at live fits =
    let o = c.args.reach.now.volumes.now in
    let old = g.D.Outside.state c.args.reach.now.disk.now in
    let new = g.D.Outside.state c.inner.new.self.disk.now in
    stop_from (λ (stop : Stop). stop ≡ Disk) c.from_residual.result c.in_err-inner.field-0.0 c.from_residual.ensures.1
    (only_disk (λ block. SpellsNoInner block c.args.a c.args.level c.args.series c.args.number) o old new c.args.a c.in_err-inner.field-0.0 told
    (inner_spelled o (seen_in o.volumes old.files) c.args.series leaves scene c.args.level c.args.number c.args.a c.requires.above at live fits) c.in_err-inner.ensures.err)

pub overflow_add-result : goal.overflow_add-result
overflow_add-result g c = omega (arith, number_fits (suc c.args.number) c.args.level (2 ^ 52) c.requires.number)

pub overflow_mul-result : goal.overflow_mul-result
overflow_mul-result g c = omega (arith, above_fits (suc c.args.number) c.args.level (2 ^ 52) c.requires.above c.requires.number)

pub returns-clause-tallies : goal.returns-clause-tallies
returns-clause-tallies g c =
    let spelled = c.in_ok-inner.ensures.spelled in
    tallies_of c.args.level c.in_ok-inner.field-0.level c.inner.new.into spelled.1.level_is spelled.1.inner.refs

pub returns-clause-family : goal.returns-clause-family
returns-clause-family g c told leaves scene at live fits =
    let o = c.args.reach.now.volumes.now in
    let old = g.D.Outside.state c.args.reach.now.disk.now in
    family_of o (seen_in o.volumes old.files) c.args.series leaves scene c.args.level c.args.number c.args.a c.in_ok-inner.field-0 c.inner.new.into c.requires.above at live fits (c.in_ok-inner.ensures.found told)
