use Rattle.std.proofs.Common.{◌≡◌, ◌∙◌, ℕ, ◌<◌, List, length, get_or, Option, Some, None, sym, ap, subst}
use Rattle.ak_base.specs.Points.{last_ts_from}
use Rattle.ak_meta.specs.declared.meta.SeriesMeta.{SeriesMeta}
use Rattle.ak_pool.specs.Frames.{leaf_of}
use Rattle.ak_pool.specs.declared.pool.Frame.{Frame}
use Rattle.ak_tree.specs.Standing.{Trees, trees, AreTrees, Keeps, leaf_in, last_of_series, last_behind, last_known}
use Rattle.ak_tree.proofs.Framing.{known_is, frame_at, behind_some, last_none, last_some}
use Rattle.ak_tree.proofs.Pooling.{leaf_some}
use Rattle.ak_world.specs.Steps.{last_at}
use Rattle.ak_world.specs.Worlds.{World}
use Rattle.ak_tree.proofs.forest.Forest.last.Goals as goal

-- what the forest knows is what the world says
known_in : (f now : Trees) (n : ℕ) (o : Option ℕ) (w : World) → f ≡ now → AreTrees f → n < length now.meta.series → o ≡ last_known now n → Keeps w now → o ≡ last_at w.series n
known_in f now n o w same are within is keeps = is ∙ known_is w now n (subst AreTrees same are) keeps within

pub returns-in-Some-clause-known : goal.returns-in-Some-clause-known
returns-in-Some-clause-known c =
    let f : Trees = trees c.self.inside.meta c.self.inside.pool c.self.inside.frames.items c.self.inside.levels c.self.inside.check c.self.inside.since in
    let n = c.args.series in
    let known : n < length f.meta.series = subst (λ (t : Trees). n < length t.meta.series) (sym c.self.view_is) c.requires in
    let is : get_or f.frames n None ≡ Some c.in-Some.frame = frame_at f n c.index.result.now (Some c.in-Some.frame) c.self.invariant known c.index.ensures c.in-Some.is in
    let last : c.last_of.result ≡ last_ts_from 0 (leaf_of f.pool.used c.in-Some.frame.0) = c.last_of.ensures ∙ ap (last_ts_from 0) (c.points.ensures.points ∙ c.leaf.ensures) in
    ap Some last
    ∙ sym (behind_some (last_of_series f.meta.series n) (leaf_of f.pool.used c.in-Some.frame.0) (leaf_some f.pool f.frames (length f.meta.series) n c.in-Some.frame c.self.invariant.pooled is))
    ∙ sym (ap (λ (o : Option Frame). last_behind (last_of_series f.meta.series n) (leaf_in f.pool o)) is)
    ∙ ap (λ (t : Trees). last_known t n) c.self.view_is

pub returns-in-Some-clause-last : goal.returns-in-Some-clause-last
returns-in-Some-clause-last c w keeps = known_in _ c.args.self.now c.args.series (Some c.last_of.result) w c.self.view_is c.self.invariant c.requires (returns-in-Some-clause-known c) keeps

pub returns-then-known-eq0-clause-known : goal.returns-then-known-eq0-clause-known
returns-then-known-eq0-clause-known c =
    let f : Trees = trees c.self.inside.meta c.self.inside.pool c.self.inside.frames.items c.self.inside.levels c.self.inside.check c.self.inside.since in
    let n = c.args.series in
    let known : n < length f.meta.series = subst (λ (t : Trees). n < length t.meta.series) (sym c.self.view_is) c.requires in
    let is : get_or f.frames n None ≡ None = frame_at f n c.index.result.now None c.self.invariant known c.index.ensures c.in_default.is in
    let here : c.index-series-series.result ≡ get_or f.meta.series n c.index-series-series.result =
    subst (λ (all : List SeriesMeta). c.index-series-series.result ≡ get_or all n c.index-series-series.result) c.series.ensures c.index-series-series.is in
    sym (last_none f.meta.series n c.index-series-series.result known here c.if-known-eq0.true)
    ∙ sym (ap (λ (o : Option Frame). last_behind (last_of_series f.meta.series n) (leaf_in f.pool o)) is)
    ∙ ap (λ (t : Trees). last_known t n) c.self.view_is

pub returns-then-known-eq0-clause-last : goal.returns-then-known-eq0-clause-last
returns-then-known-eq0-clause-last c w keeps = known_in _ c.args.self.now c.args.series None w c.self.view_is c.self.invariant c.requires (returns-then-known-eq0-clause-known c) keeps

pub returns-else-known-eq0-clause-known : goal.returns-else-known-eq0-clause-known
returns-else-known-eq0-clause-known c =
    let f : Trees = trees c.self.inside.meta c.self.inside.pool c.self.inside.frames.items c.self.inside.levels c.self.inside.check c.self.inside.since in
    let n = c.args.series in
    let known : n < length f.meta.series = subst (λ (t : Trees). n < length t.meta.series) (sym c.self.view_is) c.requires in
    let is : get_or f.frames n None ≡ None = frame_at f n c.index.result.now None c.self.invariant known c.index.ensures c.in_default.is in
    let here : c.index-series-series.result ≡ get_or f.meta.series n c.index-series-series.result =
    subst (λ (all : List SeriesMeta). c.index-series-series.result ≡ get_or all n c.index-series-series.result) c.series.ensures c.index-series-series.is in
    sym (last_some f.meta.series n c.index-series-series.result known here c.if-known-eq0.false)
    ∙ sym (ap (λ (o : Option Frame). last_behind (last_of_series f.meta.series n) (leaf_in f.pool o)) is)
    ∙ ap (λ (t : Trees). last_known t n) c.self.view_is

pub returns-else-known-eq0-clause-last : goal.returns-else-known-eq0-clause-last
returns-else-known-eq0-clause-last c w keeps = known_in _ c.args.self.now c.args.series (Some c.index-series-series.result.last) w c.self.view_is c.self.invariant c.requires (returns-else-known-eq0-clause-known c) keeps
