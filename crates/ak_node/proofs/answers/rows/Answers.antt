use Rattle.std.proofs.Common.{ℕ, List, length, take, drop, ◌-◌, ◌≡◌, sym, ap, ◌∙◌}
use Rattle.std.proofs.lemmas.List.{take_rest}
use Rattle.std.proofs.lemmas.Result.{on_ok_weaker}
use Rattle.ak_host.specs.Moments.{mark_now}
use Rattle.ak_host.proofs.Passing.{ports_leave}
use Rattle.ak_run.specs.Bulks.{head_room}
use Rattle.ak_run.specs.declared.asked.Asked.TheVariants.{Rows}
use Rattle.ak_node.proofs.Answering.{holds_asked, disk_part, told_asked, reply_part, bulk_told, reads_leave}
use Rattle.ak_node.proofs.Staying.{holds_after_ports, ready_after_ports, ok_is}
use Rattle.ak_node.proofs.Stopping.{stops_on}
use Rattle.ak_repair.proofs.OnlyReading.{on_ok}
use Rattle.ak_tree.proofs.Becoming.{origins_same, origins_it}
use Rattle.ak_tree.specs.Standing.{Trees}
use Rattle.ak_node.proofs.answers.rows.Goals as goal

pub returns-in_err-write_metric-clause-moments : goal.returns-in_err-write_metric-clause-moments
returns-in_err-write_metric-clause-moments g c told content holds =
    let old = g.H.Outside.state c.args.host.now in
    disk_part c.args.port content (Rows c.args.metric.now) holds.keeps.not_worn (reads_leave content c.args.keeper.now old (g.H.Outside.state c.write_metric.new.disk) holds (c.write_metric.ensures.moments told))

pub returns-in-Ok-clause-stops : goal.returns-in-Ok-clause-stops
returns-in-Ok-clause-stops g c =
    let meta = c.args.keeper.now.forest.meta in
    stops_on _ _ meta _ _ _ c.write_metric.result c.tell.result c.write_metric.ensures.stops (λ told. origins_same (g.H.Outside.state c.args.host.now) (g.H.Outside.state c.write_metric.new.disk) meta (c.write_metric.ensures.files told))
    (c.tell.ensures.stops meta)

pub returns-in-Ok-clause-ready : goal.returns-in-Ok-clause-ready
returns-in-Ok-clause-ready g c =
    ok_is c.tell.result (ready_after_ports g.H.Outside.tells c.write_metric.new.keeper (g.H.Outside.state c.write_metric.new.disk) (g.H.Outside.state c.tell.new.host) c.write_metric.ensures.ready
    (c.tell.ensures.stops c.args.keeper.now.forest.meta).sizes c.tell.ensures.files (λ told. ports_leave (c.tell.ensures.moments told)))

pub returns-in-Ok-clause-after : goal.returns-in-Ok-clause-after
returns-in-Ok-clause-after g c told content holds =
    ok_is c.tell.result (holds_asked c.args.port content (Rows c.args.metric.now) holds.keeps.not_worn c.write_metric.new.keeper (g.H.Outside.state c.tell.new.host)
    (holds_after_ports content c.write_metric.new.keeper (g.H.Outside.state c.write_metric.new.disk) (g.H.Outside.state c.tell.new.host)
    (c.write_metric.ensures.holds told content holds) (c.tell.ensures.files told) (c.tell.ensures.moments told)))

pub returns-in-Ok-clause-told : goal.returns-in-Ok-clause-told
returns-in-Ok-clause-told g c told content holds =
    let old = g.H.Outside.state c.args.host.now in
    let text = c.in_ok-write_metric.ensures.rows told content holds in
    let long : length c.begin_bulk.new.reply ≡ head_room = on_ok c.begin_bulk.result (sym c.is_err.ensures.value ∙ c.if-is_err.false) c.begin_bulk.ensures in
    let all = c.as_slice.result.now in
    let bytes : List ℕ = take (length all - c.in-Ok.start) (drop c.in-Ok.start all) in
    let told_is : bytes ≡ drop c.in-Ok.start c.end_bulk.new.reply = take_rest all c.in-Ok.start ∙ ap (drop c.in-Ok.start) c.as_slice.ensures in
    let reply = bulk_told c.args.port content c.args.metric.now c.begin_bulk.new.reply c.write_metric.new.text c.end_bulk.new.reply bytes c.in-Ok.start holds.keeps.not_worn long text c.in-Ok.ensures told_is in
    on_ok_weaker c.tell.result
    (told_asked c.args.port content (Rows c.args.metric.now) holds.keeps.not_worn (reads_leave content c.args.keeper.now old (g.H.Outside.state c.write_metric.new.disk) holds (c.write_metric.ensures.moments told))
    bytes reply (mark_now (g.H.Outside.state c.tell.new.host)))
    (c.tell.ensures.told told)

pub returns-in-Ok-clause-moments : goal.returns-in-Ok-clause-moments
returns-in-Ok-clause-moments g c told content holds =
    let old = g.H.Outside.state c.args.host.now in
    let text = c.in_ok-write_metric.ensures.rows told content holds in
    let long : length c.begin_bulk.new.reply ≡ head_room = on_ok c.begin_bulk.result (sym c.is_err.ensures.value ∙ c.if-is_err.false) c.begin_bulk.ensures in
    let all = c.as_slice.result.now in
    let bytes : List ℕ = take (length all - c.in-Ok.start) (drop c.in-Ok.start all) in
    let told_is : bytes ≡ drop c.in-Ok.start c.end_bulk.new.reply = take_rest all c.in-Ok.start ∙ ap (drop c.in-Ok.start) c.as_slice.ensures in
    let reply = bulk_told c.args.port content c.args.metric.now c.begin_bulk.new.reply c.write_metric.new.text c.end_bulk.new.reply bytes c.in-Ok.start holds.keeps.not_worn long text c.in-Ok.ensures told_is in
    reply_part c.args.port content (Rows c.args.metric.now) holds.keeps.not_worn (reads_leave content c.args.keeper.now old (g.H.Outside.state c.write_metric.new.disk) holds (c.write_metric.ensures.moments told))
    bytes reply c.write_metric.new.keeper (c.write_metric.ensures.holds told content holds) (c.tell.ensures.moments told)

pub returns-clause-moments : goal.returns-clause-moments
returns-clause-moments g c told content holds =
    let old = g.H.Outside.state c.args.host.now in
    disk_part c.args.port content (Rows c.args.metric.now) holds.keeps.not_worn (reads_leave content c.args.keeper.now old (g.H.Outside.state c.write_metric.new.disk) holds (c.write_metric.ensures.moments told))

pub returns-in-Ok-clause-becomes : goal.returns-in-Ok-clause-becomes
returns-in-Ok-clause-becomes g c told =
    ok_is c.tell.result (origins_it (g.H.Outside.state c.args.host.now) (g.H.Outside.state c.tell.new.host) c.args.keeper.now.forest.meta c.write_metric.new.keeper.forest.meta (ap (λ (t : Trees). t.meta) c.write_metric.ensures.forest)
    (c.tell.ensures.files told ∙ c.write_metric.ensures.files told))
