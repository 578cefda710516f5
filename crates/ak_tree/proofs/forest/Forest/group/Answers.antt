use Rattle.std.proofs.Common.{◌≡◌, ◌≢◌, ◌∙◌, ◌<◌, List, [], length, get_or, Some, None, sym, ap, subst, arith}
use Rattle.ak_base.specs.Points.{IsHistory}
use Rattle.ak_base.specs.declared.point.Point.{Point}
use Rattle.ak_image.specs.Laid.{series_in}
use Rattle.ak_levels.specs.Entries.{IsTally}
use Rattle.ak_levels.proofs.Leaves.{leaf_tally}
use Rattle.ak_meta.proofs.Closing.{leaves_here}
use Rattle.ak_meta.specs.Leaves.{leaves_at}
use Rattle.ak_meta.specs.declared.meta.SeriesMeta.{SeriesMeta}
use Rattle.ak_tree.specs.Standing.{Trees, trees}
use Rattle.ak_tree.proofs.Heads.{series_here}
use Rattle.ak_tree.proofs.Pooling.{leaf_some}
use Rattle.ak_tree.proofs.forest.Forest.group.Goals as goal

pub refer-requires-clause-some : goal.refer-requires-clause-some
refer-requires-clause-some c =
    let f : Trees = trees c.self.inside.meta c.self.inside.pool c.self.inside.frames.items c.self.inside.levels c.self.inside.check c.self.inside.since in
    let is : get_or f.frames c.args.series None ≡ Some c.args.frame = subst (λ (t : Trees). get_or t.frames c.args.series None ≡ Some c.args.frame) (sym c.self.view_is) c.requires.framed in
    λ empty. leaf_some f.pool f.frames (length f.meta.series) c.args.series c.args.frame c.self.invariant.pooled is (sym (c.points.ensures.points ∙ c.leaf.ensures) ∙ empty)

pub returns-clause-number : goal.returns-clause-number
returns-clause-number c =
    let f : Trees = trees c.self.inside.meta c.self.inside.pool c.self.inside.frames.items c.self.inside.levels c.self.inside.check c.self.inside.since in
    let n = c.args.series in
    let s : SeriesMeta = c.index-series-series.result in
    let known : n < length f.meta.series = subst (λ (t : Trees). n < length t.meta.series) (sym c.self.view_is) c.requires.known in
    let here : s ≡ get_or f.meta.series n s = subst (λ (all : List SeriesMeta). s ≡ get_or all n s) c.series.ensures c.index-series-series.is in
    sym (leaves_here f.meta.series n s known here) ∙ ap (λ (t : Trees). leaves_at t.meta.series n) c.self.view_is

pub returns-clause-elders : goal.returns-clause-elders
returns-clause-elders c =
    let f : Trees = trees c.self.inside.meta c.self.inside.pool c.self.inside.frames.items c.self.inside.levels c.self.inside.check c.self.inside.since in
    let n = c.args.series in
    let s : SeriesMeta = c.index-series-series.result in
    let known : n < length f.meta.series = subst (λ (t : Trees). n < length t.meta.series) (sym c.self.view_is) c.requires.known in
    let here : s ≡ get_or f.meta.series n s = subst (λ (all : List SeriesMeta). s ≡ get_or all n s) c.series.ensures c.index-series-series.is in
    ap (λ (x : SeriesMeta). x.rescue) (series_here f.meta.series n s known here) ∙ ap (λ (t : Trees). (series_in t.meta.series n).rescue) c.self.view_is

pub returns-clause-tally : goal.returns-clause-tally
returns-clause-tally c =
    let f : Trees = trees c.self.inside.meta c.self.inside.pool c.self.inside.frames.items c.self.inside.levels c.self.inside.check c.self.inside.since in
    let is : get_or f.frames c.args.series None ≡ Some c.args.frame = subst (λ (t : Trees). get_or t.frames c.args.series None ≡ Some c.args.frame) (sym c.self.view_is) c.requires.framed in
    let some : c.points.result.now ≢ [] = λ empty. leaf_some f.pool f.frames (length f.meta.series) c.args.series c.args.frame c.self.invariant.pooled is (sym (c.points.ensures.points ∙ c.leaf.ensures) ∙ empty) in
    subst (IsTally 0) (sym c.refer.ensures) (leaf_tally c.spot.result.0 c.points.result.now some (omega (arith, c.points.ensures.most, ap (length {A = Point}) c.points.ensures.points)) (subst IsHistory (sym c.points.ensures.points) c.points.ensures.history))
