use Rattle.std.proofs.Common.{rules, ◌≡◌, ◌∙◌, ℕ, ◌++◌, List, get_or, sym, ap, ap₂, subst, arith}
use Rattle.std.proofs.lemmas.Result.{on_ok_weaker, IfErr-weaker}
use Rattle.std.specs.List.{AllByRecursion, flat_map}
use Rattle.std.specs.Result.{IfErr}
use Rattle.ak_base.specs.declared.point.Addr.{Addr}
use Rattle.ak_meta.specs.declared.meta.SeriesMeta.{SeriesMeta}
use Rattle.ak_repair.proofs.Chained.{at_place, at_one, broken_in, whole_in, walked_same}
use Rattle.ak_repair.proofs.OnlyReading.{stop_from, reason_weaker}
use Rattle.ak_repair.specs.Reads.{IsReadStop}
use Rattle.ak_repair.specs.Walks.{IsAt, IsWholeIn, IsBrokenIn}
use Rattle.ak_run.specs.Replies.{row_text}
use Rattle.ak_world.specs.Leaves.{Leaf, points_of}
use Rattle.ak_volumes.specs.Ordinals.{Ordinals, IsLive}
use Rattle.ak_node.proofs.rows.write_closed.Goals as goal

pub returns-in_err-addresses-clause-stops : goal.returns-in_err-addresses-clause-stops
returns-in_err-addresses-clause-stops g c =
    let m = c.args.keeper.now.forest.meta in
    let n = c.args.series in
    let s : SeriesMeta = c.index-series-series.result in
    let old = g.D.Outside.state c.args.disk.now in
    let new = g.D.Outside.state c.live_leaves.new.reach.disk.now in
    let series : c.series.result.now ≡ m.series = c.series.ensures ∙ ap (λ r. r.series) c.meta.ensures in
    let here : IsAt m.series n s = at_place m.series n s c.requires.known (subst (λ (l : List SeriesMeta). s ≡ get_or l n s) series c.index-series-series.is) in
    let stops : IfErr c.from_residual.result (IsReadStop (λ file block. g.D.Outside.tells → IsBrokenIn m old.files n file block) old new) =
    stop_from _ c.from_residual.result c.in_err-addresses.field-0.0 c.from_residual.ensures.1
    (reason_weaker old old new c.in_err-addresses.field-0.0 (omega arith) (λ file block broken told. broken_in m old.files n c.volumes.result.now s file block c.volumes.ensures here (broken told)) c.in_err-addresses.ensures.stops) in
    search rules

pub write_leaves-requires-clause-live : goal.write_leaves-requires-clause-live
write_leaves-requires-clause-live g c =
    let volumes : c.live_leaves.new.reach.volumes.now ≡ c.volumes.result.now = ap (λ v. v.now) c.live_leaves.ensures.keeps.volumes in
    subst (λ (v : Ordinals). AllByRecursion (λ (a : Addr). IsLive v a.0) c.as_slice.result.now) (sym volumes)
    (subst (λ (all : List Addr). AllByRecursion (λ (a : Addr). IsLive c.volumes.result.now a.0) all) (sym c.as_slice.ensures.value) c.in_ok-addresses.ensures.live)

pub returns-clause-rows : goal.returns-clause-rows
returns-clause-rows g c told known is =
    let m = c.args.keeper.now.forest.meta in
    let n = c.args.series in
    let s : SeriesMeta = c.index-series-series.result in
    let old = g.D.Outside.state c.args.disk.now in
    let series : c.series.result.now ≡ m.series = c.series.ensures ∙ ap (λ r. r.series) c.meta.ensures in
    let here : IsAt m.series n s = at_place m.series n s c.requires.known (subst (λ (l : List SeriesMeta). s ≡ get_or l n s) series c.index-series-series.is) in
    let same : s ≡ known = at_one m.series n s known here is in
    let volumes : c.live_leaves.new.reach.volumes.now ≡ c.volumes.result.now = ap (λ v. v.now) c.live_leaves.ensures.keeps.volumes in
    let walked = c.in_ok-addresses.ensures.walked told in
    let again = walked_same c.live_leaves.new.reach.volumes.now (g.D.Outside.state c.live_leaves.new.reach.disk.now).files c.as_slice.result.now volumes (c.live_leaves.ensures.reads.files told) c.as_slice.ensures.value walked in
    let whole : IsWholeIn m old.files n walked.leaves = whole_in m old.files n c.volumes.result.now s walked.leaves c.volumes.ensures here walked.whole in
    let text : c.args.text.now ++ flat_map (row_text c.scale-scale.result s.name) (points_of again.0.leaves) ≡ c.args.text.now ++ flat_map (row_text m.limits.scale known.name) (points_of walked.leaves) =
    ap₂ (λ (k : ℕ) (r : SeriesMeta). c.args.text.now ++ flat_map (row_text k r.name) (points_of again.0.leaves)) c.scale-scale.ensures.is same
    ∙ ap (λ (leaves : List Leaf). c.args.text.now ++ flat_map (row_text m.limits.scale known.name) (points_of leaves)) again.1 in
    on_ok_weaker c.write_leaves.result (λ wrote. (walked.leaves, whole, wrote ∙ text)) (c.write_leaves.ensures.rows told again.0)

pub returns-clause-stops : goal.returns-clause-stops
returns-clause-stops g c =
    let m = c.args.keeper.now.forest.meta in
    let n = c.args.series in
    let old = g.D.Outside.state c.args.disk.now in
    let mid = g.D.Outside.state c.live_leaves.new.reach.disk.now in
    let new = g.D.Outside.state c.write_leaves.new.reach.disk.now in
    let volumes : c.live_leaves.new.reach.volumes.now ≡ c.volumes.result.now = ap (λ v. v.now) c.live_leaves.ensures.keeps.volumes in
    let stops : IfErr c.write_leaves.result (IsReadStop (λ file block. g.D.Outside.tells → IsBrokenIn m old.files n file block) old new) =
    IfErr-weaker c.write_leaves.result _ _
    (λ stop is. reason_weaker old mid new stop c.live_leaves.ensures.reads.later
    (λ file block damaged told.
    let again = walked_same c.live_leaves.new.reach.volumes.now mid.files c.as_slice.result.now volumes (c.live_leaves.ensures.reads.files told) c.as_slice.ensures.value (c.in_ok-addresses.ensures.walked told) in
    absurd (damaged told again.0))
    is)
    c.write_leaves.ensures.stops in
    search rules
