use Rattle.std.proofs.Common.{◌≡◌, ◌∙◌, List, get_or, sym, ap, subst}
use Rattle.std.proofs.lemmas.Result.{on_ok_weaker}
use Rattle.ak_meta.specs.declared.meta.SeriesMeta.{SeriesMeta}
use Rattle.ak_node.proofs.Chained.{named_at}
use Rattle.ak_node.proofs.RowsOf.{rows_chosen, rows_passed}
use Rattle.ak_world.specs.Worlds.{limits_of}
use Rattle.ak_node.proofs.rows.write_of.Goals as goal

pub returns-then-is_of-clause-rows : goal.returns-then-is_of-clause-rows
returns-then-is_of-clause-rows g c told content s holds is =
    let f = c.args.keeper.now.forest in
    let t : SeriesMeta = c.index-series-series.result in
    let series : c.series.result.now ≡ f.meta.series = c.series.ensures ∙ ap (λ m. m.series) c.meta.ensures in
    let here : t ≡ get_or f.meta.series c.args.series t = subst (λ (l : List SeriesMeta). t ≡ get_or l c.args.series t) series c.index-series-series.is in
    let name : c.as_bytes.result.now ≡ s.name =
    c.as_bytes.ensures.value ∙ c.as_str-name.ensures.value ∙ ap (λ (m : SeriesMeta). m.name) (sym c.index-series-series.is)
    ∙ named_at content f (g.D.Outside.state c.args.disk.now) c.args.series s t holds is c.requires.known here in
    on_ok_weaker c.write_series.result
    (rows_chosen (limits_of content).scale content.ordinals.lo c.args.metric.now c.as_bytes.result.now s c.args.text.now c.write_series.new.text c.is_of.result name c.is_of.ensures c.if-is_of.true)
    (c.write_series.ensures.rows told content s holds is)

pub returns-else-is_of-clause-rows : goal.returns-else-is_of-clause-rows
returns-else-is_of-clause-rows g c told content s holds is =
    let f = c.args.keeper.now.forest in
    let t : SeriesMeta = c.index-series-series.result in
    let series : c.series.result.now ≡ f.meta.series = c.series.ensures ∙ ap (λ m. m.series) c.meta.ensures in
    let here : t ≡ get_or f.meta.series c.args.series t = subst (λ (l : List SeriesMeta). t ≡ get_or l c.args.series t) series c.index-series-series.is in
    let name : c.as_bytes.result.now ≡ s.name =
    c.as_bytes.ensures.value ∙ c.as_str-name.ensures.value ∙ ap (λ (m : SeriesMeta). m.name) (sym c.index-series-series.is)
    ∙ named_at content f (g.D.Outside.state c.args.disk.now) c.args.series s t holds is c.requires.known here in
    rows_passed (limits_of content).scale content.ordinals.lo c.args.metric.now c.as_bytes.result.now s c.args.text.now c.is_of.result name c.is_of.ensures c.if-is_of.false
