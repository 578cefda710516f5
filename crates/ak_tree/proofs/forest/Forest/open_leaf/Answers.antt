use Rattle.std.proofs.Common.{◌≡◌, ◌∙◌, ◌<◌, length, get_or, Some, None, sym, ap, subst}
use Rattle.ak_tree.specs.Standing.{Trees, trees, Keeps, leaf_in}
use Rattle.ak_tree.proofs.Framing.{written_is, frame_at}
use Rattle.ak_tree.proofs.forest.Forest.open_leaf.Goals as goal

pub returns-in-Some-clause-points : goal.returns-in-Some-clause-points
returns-in-Some-clause-points c w keeps =
    let f : Trees = trees c.self.inside.meta c.self.inside.pool c.self.inside.frames.items c.self.inside.levels c.self.inside.check c.self.inside.since in
    let known : c.args.series < length f.meta.series = subst (λ (t : Trees). c.args.series < length t.meta.series) (sym c.self.view_is) c.requires in
    let is : get_or f.frames c.args.series None ≡ Some c.in-Some.frame = frame_at f c.args.series c.index.result.now (Some c.in-Some.frame) c.self.invariant known c.index.ensures c.in-Some.is in
    c.leaf.ensures ∙ sym (written_is w f c.args.series c.self.invariant (subst (Keeps w) (sym c.self.view_is) keeps) known ∙ ap (leaf_in f.pool) is)

pub returns-in-None-clause-points : goal.returns-in-None-clause-points
returns-in-None-clause-points c w keeps =
    let f : Trees = trees c.self.inside.meta c.self.inside.pool c.self.inside.frames.items c.self.inside.levels c.self.inside.check c.self.inside.since in
    let known : c.args.series < length f.meta.series = subst (λ (t : Trees). c.args.series < length t.meta.series) (sym c.self.view_is) c.requires in
    let is : get_or f.frames c.args.series None ≡ None = frame_at f c.args.series c.index.result.now None c.self.invariant known c.index.ensures c.in-None.is in
    written_is w f c.args.series c.self.invariant (subst (Keeps w) (sym c.self.view_is) keeps) known ∙ ap (leaf_in f.pool) is
