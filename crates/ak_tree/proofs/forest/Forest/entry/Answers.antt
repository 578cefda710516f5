use Rattle.std.proofs.Common.{◌≡◌, ◌∙◌, ◌<◌, List, length, get_or, sym, ap, subst, arith}
use Rattle.std.proofs.lemmas.List.{get_or_read}
use Rattle.ak_levels.specs.Entries.{AreLawful}
use Rattle.ak_levels.specs.Pending.{Lists, no_lists}
use Rattle.ak_meta.proofs.Closing.{leaves_there}
use Rattle.ak_meta.specs.Leaves.{leaves_at}
use Rattle.ak_meta.specs.declared.meta.SeriesMeta.{SeriesMeta}
use Rattle.ak_tree.specs.Standing.{Trees, levels_at}
use Rattle.ak_tree.proofs.Planted.{lawful_long, lawful_at}
use Rattle.ak_tree.proofs.forest.Forest.entry.Goals as goal

pub bounds-as_slice-series : goal.bounds-as_slice-series
bounds-as_slice-series c =
    let m = c.self.inside in
    let known : c.args.series < length m.meta.series = subst (λ (t : Trees). c.args.series < length t.meta.series) (sym c.self.view_is) c.requires in
    omega (arith, ap (λ (l : List Lists). length l) c.as_slice.ensures, lawful_long m.meta.series m.levels c.self.invariant.lawful, known)

pub returns-clause-leaves : goal.returns-clause-leaves
returns-clause-leaves c =
    let m = c.self.inside in
    let known : c.args.series < length m.meta.series = subst (λ (t : Trees). c.args.series < length t.meta.series) (sym c.self.view_is) c.requires in
    ap (λ (all : List SeriesMeta). (get_or all c.args.series c.index-series-series.result).leaves) c.series.ensures
    ∙ sym (leaves_there m.meta.series c.args.series c.index-series-series.result known)
    ∙ ap (λ (t : Trees). leaves_at t.meta.series c.args.series) c.self.view_is

pub returns-clause-levels : goal.returns-clause-levels
returns-clause-levels c =
    let m = c.self.inside in
    let known : c.args.series < length m.meta.series = subst (λ (t : Trees). c.args.series < length t.meta.series) (sym c.self.view_is) c.requires in
    let is : c.index-as_slice-series.result ≡ get_or m.levels c.args.series c.index-as_slice-series.result = subst (λ (l : List Lists). c.index-as_slice-series.result ≡ get_or l c.args.series c.index-as_slice-series.result) c.as_slice.ensures c.index-as_slice-series.is in
    get_or_read m.levels c.args.series c.index-as_slice-series.result (omega (arith, lawful_long m.meta.series m.levels c.self.invariant.lawful, known)) is no_lists
    ∙ ap (λ (t : Trees). levels_at t c.args.series) c.self.view_is

pub returns-clause-lawful : goal.returns-clause-lawful
returns-clause-lawful c =
    let m = c.self.inside in
    let known : c.args.series < length m.meta.series = subst (λ (t : Trees). c.args.series < length t.meta.series) (sym c.self.view_is) c.requires in
    subst (λ (t : Trees). AreLawful (leaves_at t.meta.series c.args.series) (levels_at t c.args.series)) c.self.view_is (lawful_at m.meta.series m.levels c.args.series c.self.invariant.lawful known)
