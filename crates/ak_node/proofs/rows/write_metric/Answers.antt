use Rattle.std.proofs.Common.{◌≡◌, ◌∙◌, ℕ, ◌<◌, ◌++◌, List, length, take, ap, subst, arith}
use Rattle.std.proofs.lemmas.List.{take_all}
use Rattle.std.specs.List.{flat_map}
use Rattle.ak_node.proofs.Chained.{as_many}
use Rattle.ak_repair.proofs.Chained.{at_some}
use Rattle.ak_repair.proofs.OnlyReading.{more_reads, stop_from, reason_weaker}
use Rattle.ak_node.proofs.RowsOf.{series_more}
use Rattle.ak_node.proofs.StillReady.{holds_still, has_stops}
use Rattle.ak_node.specs.Calls.{IsSoundStop}
use Rattle.ak_repair.specs.Damage.{IsDamagedLeaf}
use Rattle.ak_repair.specs.Reads.{IsReadStop}
use Rattle.ak_run.specs.Replies.{series_rows}
use Rattle.ak_host.specs.Files.{Files}
use Rattle.ak_tree.specs.Standing.{Trees}
use Rattle.ak_world.specs.Leaves.{Series}
use Rattle.ak_world.specs.Worlds.{limits_of}
use Rattle.ak_node.proofs.rows.write_metric.Goals as goal

pub returns-in_err-write_of-clause-sound : goal.returns-in_err-write_of-clause-sound
returns-in_err-write_of-clause-sound g c told content holds =
    let so_far = c.loop-series.invariant in
    let old = g.D.Outside.state c.args.disk.now in
    let mid = g.D.Outside.state c.loop-series.disk in
    let now = holds_still content c.args.keeper.now c.loop-series.keeper old mid so_far.forest so_far.reads told holds in
    stop_from IsSoundStop c.from_residual.result c.in_err-write_of.field-0.0 c.from_residual.ensures.1 (c.in_err-write_of.ensures.sound told content now)

pub returns-in_err-write_of-clause-holds : goal.returns-in_err-write_of-clause-holds
returns-in_err-write_of-clause-holds g c told content holds =
    let so_far = c.loop-series.invariant in
    let old = g.D.Outside.state c.args.disk.now in
    let new = g.D.Outside.state c.write_of.new.disk in
    holds_still content c.args.keeper.now c.write_of.new.keeper old new (c.write_of.ensures.forest ∙ so_far.forest) (more_reads so_far.reads c.write_of.ensures.reads) told holds

pub loop-series-preserved : goal.loop-series-preserved
loop-series-preserved g c =
    let so_far = c.loop-series.invariant in
    let old = g.D.Outside.state c.args.disk.now in
    let mid = g.D.Outside.state c.loop-series.disk in
    let f : Trees = c.args.keeper.now.forest in
    record {
      forest = c.write_of.ensures.forest ∙ so_far.forest;
      names = c.write_of.ensures.names ∙ so_far.names;
      reads = more_reads so_far.reads c.write_of.ensures.reads;
      longer = omega (arith, so_far.longer, c.in_ok-write_of.ensures.longer);
      rows = λ told content holds.
          let now = holds_still content c.args.keeper.now c.loop-series.keeper old mid so_far.forest so_far.reads told holds in
          let within : c.loop-series.series < length content.series = omega (arith, c.loop-series-test.true, c.count-series-end.ensures, as_many content f holds.keeps.content_is) in
          let s = at_some content.series c.loop-series.series within in
          series_more (series_rows (limits_of content).scale content.ordinals.lo c.args.metric.now) content.series c.loop-series.series s.0 c.args.text.now c.loop-series.text c.write_of.new.text s.1
          (so_far.rows told content holds) (c.in_ok-write_of.ensures.rows told content s.0 now s.1);
    }

pub returns-clause-rows : goal.returns-clause-rows
returns-clause-rows g c told content holds =
    let f : Trees = c.args.keeper.now.forest in
    let all : take c.loop-series.series content.series ≡ content.series =
    take_all c.loop-series.series content.series (omega (arith, c.loop-series-test.false, c.count-series-end.ensures, as_many content f holds.keeps.content_is)) in
    c.loop-series.invariant.rows told content holds
    ∙ ap (λ (ss : List Series). c.args.text.now ++ flat_map (series_rows (limits_of content).scale content.ordinals.lo c.args.metric.now) ss) all

pub returns-clause-holds : goal.returns-clause-holds
returns-clause-holds g c told content holds =
    let so_far = c.loop-series.invariant in
    holds_still content c.args.keeper.now c.loop-series.keeper (g.D.Outside.state c.args.disk.now) (g.D.Outside.state c.loop-series.disk) so_far.forest so_far.reads told holds

pub returns-in_err-write_of-clause-stops : goal.returns-in_err-write_of-clause-stops
returns-in_err-write_of-clause-stops g c =
    let so_far = c.loop-series.invariant in
    let tells = g.D.Outside.tells in
    let old = g.D.Outside.state c.args.disk.now in
    let mid = g.D.Outside.state c.loop-series.disk in
    let new = g.D.Outside.state c.write_of.new.disk in
    let f : Trees = c.args.keeper.now.forest in
    let now : Trees = c.loop-series.keeper.forest in
    let damaged : ℕ → ℕ → Type 0 = λ file block. tells → IsDamagedLeaf f.meta file block old.files in
    let why = reason_weaker {P = λ file block. tells → IsDamagedLeaf now.meta file block mid.files} {Q = damaged} old mid new c.in_err-write_of.field-0.0 so_far.reads.later
    (λ file block is told. subst (λ (t : Trees). IsDamagedLeaf t.meta file block old.files) so_far.forest (subst (λ (files : Files). IsDamagedLeaf now.meta file block files) (so_far.reads.files told) (is told)))
    c.in_err-write_of.ensures.stops in
    has_stops tells f.meta old new c.from_residual.result c.room.ensures.rules.rules_are.ordinals_are (more_reads so_far.reads c.write_of.ensures.reads) (stop_from (IsReadStop damaged old new) c.from_residual.result c.in_err-write_of.field-0.0 c.from_residual.ensures.1 why)
