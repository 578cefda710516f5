use Rattle.std.proofs.Common.{◌≡◌, ◌∙◌, ℕ, ◌++◌, List, get_or, sym, ap, ap₂, subst, arith}
use Rattle.std.proofs.lemmas.Result.{on_ok_weaker}
use Rattle.std.specs.List.{flat_map}
use Rattle.ak_base.specs.declared.point.Point.{Point}
use Rattle.ak_meta.specs.declared.meta.SeriesMeta.{SeriesMeta}
use Rattle.ak_repair.proofs.Chained.{at_place, at_one}
use Rattle.ak_repair.specs.Walks.{IsAt}
use Rattle.ak_run.specs.Replies.{row_text}
use Rattle.ak_world.specs.Steps.{written_in}
use Rattle.ak_node.proofs.RowsOf.{no_shorter}
use Rattle.ak_node.proofs.rows.write_open.Goals as goal

pub returns-in-Some : goal.returns-in-Some
returns-in-Some c = record {
  longer =
      on_ok_weaker c.write_rows.result (λ wrote. no_shorter c.args.text.now c.args.text.now (flat_map (row_text c.scale-scale.result c.as_bytes.result.now) c.points.result.now) c.write_rows.new.text wrote (omega arith))
      c.write_rows.ensures;
  rows = λ content known keeps is.
      let all : List SeriesMeta = c.args.forest.now.meta.series in
      let s : SeriesMeta = c.index-series-series.result in
      let series : c.series.result.now ≡ all = c.series.ensures ∙ ap (λ m. m.series) c.meta.ensures in
      let here : IsAt all c.args.series s = at_place all c.args.series s c.requires.known (subst (λ (l : List SeriesMeta). s ≡ get_or l c.args.series s) series c.index-series-series.is) in
      let same : s ≡ known = at_one all c.args.series s known here is in
      let name : c.as_bytes.result.now ≡ known.name = c.as_bytes.ensures.value ∙ c.as_str-name.ensures.value ∙ ap (λ (m : SeriesMeta). m.name) (sym c.index-series-series.is ∙ same) in
      let scale : c.scale-scale.result ≡ c.args.forest.now.meta.limits.scale = c.scale-scale.ensures.is in
      let points : c.points.result.now ≡ written_in content.series c.args.series = c.points.ensures.points ∙ c.in-Some.ensures.points content keeps in
      let text : c.args.text.now ++ flat_map (row_text c.scale-scale.result c.as_bytes.result.now) c.points.result.now ≡ c.args.text.now ++ flat_map (row_text c.args.forest.now.meta.limits.scale known.name) (written_in content.series c.args.series) =
      ap (λ (k : ℕ). c.args.text.now ++ flat_map (row_text k c.as_bytes.result.now) c.points.result.now) scale
      ∙ ap₂ (λ (n : List ℕ) (ps : List Point). c.args.text.now ++ flat_map (row_text c.args.forest.now.meta.limits.scale n) ps) name points in
      on_ok_weaker c.write_rows.result (λ wrote. wrote ∙ text) c.write_rows.ensures;
}
