use Rattle.std.proofs.Common.{◌≡◌, ◌++◌, sym, subst, arith}
use Rattle.std.specs.List.{flat_map}
use Rattle.ak_node.proofs.Chained.{kept_at, never_broken}
use Rattle.ak_node.proofs.OnlyReading.{sound_read}
use Rattle.ak_repair.proofs.OnlyReading.{stop_from, reason_weaker}
use Rattle.ak_node.proofs.RowsOf.{series_written}
use Rattle.ak_node.specs.Calls.{IsSoundStop}
use Rattle.ak_repair.specs.Walks.{IsAt, IsBrokenIn}
use Rattle.ak_run.specs.Replies.{row_text}
use Rattle.ak_tree.specs.Standing.{Trees, Keeps}
use Rattle.ak_world.specs.Steps.{written_in}
use Rattle.ak_node.proofs.rows.write_series.Goals as goal

pub returns-in_err-write_closed-clause-stops : goal.returns-in_err-write_closed-clause-stops
returns-in_err-write_closed-clause-stops g c =
    let m = c.args.keeper.now.forest.meta in
    let old = g.D.Outside.state c.args.disk.now in
    stop_from _ c.from_residual.result c.in_err-write_closed.field-0.0 c.from_residual.ensures.1
    (reason_weaker old old (g.D.Outside.state c.write_closed.new.disk) c.in_err-write_closed.field-0.0 (omega arith)
    (λ file block broken told. (c.args.series, broken told)) c.in_err-write_closed.ensures.stops)

pub returns-in_err-write_closed-clause-sound : goal.returns-in_err-write_closed-clause-sound
returns-in_err-write_closed-clause-sound g c told content holds =
    let old = g.D.Outside.state c.args.disk.now in
    stop_from IsSoundStop c.from_residual.result c.in_err-write_closed.field-0.0 c.from_residual.ensures.1
    (sound_read {P = λ file block. g.D.Outside.tells → IsBrokenIn c.args.keeper.now.forest.meta old.files c.args.series file block} old (g.D.Outside.state c.write_closed.new.disk) c.in_err-write_closed.field-0.0
    (λ file block broken. never_broken content c.args.keeper.now.forest old c.args.series file block holds c.requires.known (broken told)) c.in_err-write_closed.ensures.stops)

pub returns-in-Ok-clause-rows : goal.returns-in-Ok-clause-rows
returns-in-Ok-clause-rows g c told content s holds is =
    let f = c.args.keeper.now.forest in
    let old = g.D.Outside.state c.args.disk.now in
    let kept = kept_at content f old c.args.series s holds is in
    let closed = c.in_ok-write_closed.ensures.rows told kept.known kept.is in
    let same : c.write_closed.new.keeper.forest ≡ f = c.write_closed.ensures.forest in
    let open_leaf : c.write_open.new.text ≡ c.write_closed.new.text ++ flat_map (row_text f.meta.limits.scale kept.known.name) (written_in content.series c.args.series) =
    subst (λ (t : Trees). c.write_open.new.text ≡ c.write_closed.new.text ++ flat_map (row_text t.meta.limits.scale kept.known.name) (written_in content.series c.args.series)) same
    (c.in-Ok.ensures.rows content kept.known (subst (λ (t : Trees). Keeps content t) (sym same) holds.keeps) (subst (λ (t : Trees). IsAt t.meta.series c.args.series kept.known) (sym same) kept.is)) in
    series_written content f old c.args.series s closed.0 c.args.text.now c.write_closed.new.text c.write_open.new.text holds is closed.1 closed.2 open_leaf
