use Rattle.std.proofs.Common.{◌<◌, length, get_or, sym, subst, arith}
use Rattle.ak_levels.proofs.Closed.{free_at}
use Rattle.ak_levels.proofs.Digits.{carry_most}
use Rattle.ak_levels.specs.Entries.{AreLawful}
use Rattle.ak_meta.specs.Leaves.{leaves_at}
use Rattle.ak_tree.specs.Standing.{Trees, trees}
use Rattle.ak_tree.proofs.Closed.{known_few}
use Rattle.ak_tree.proofs.Planted.{lawful_long, lawful_at}
use Rattle.ak_tree.proofs.Waiting.{leaves_read, places_for, has_places, places_read, trees_placed}
use Rattle.ak_tree.proofs.forest.Forest.reserve.Goals.{in-Ok, in-Err}
use Rattle.ak_tree.proofs.forest.Forest.reserve.Goals as goal

pub get_mut-requires : goal.get_mut-requires
get_mut-requires c =
    let within : c.args.series < length c.self.inside.meta.series = subst (λ (f : Trees). c.args.series < length f.meta.series) (sym c.self.view_is) c.requires.known in
    omega (arith, lawful_long c.self.inside.meta.series c.self.inside.levels c.self.invariant.lawful, within)

pub reserve-requires-clause-number : goal.reserve-requires-clause-number
reserve-requires-clause-number c =
    let within : c.args.series < length c.self.inside.meta.series = subst (λ (f : Trees). c.args.series < length f.meta.series) (sym c.self.view_is) c.requires.known in
    known_few c.series.result.now c.self.inside.meta c.args.series c.index-series-series.result c.series.ensures c.self.invariant.rules_are within

pub reserve-requires-clause-free : goal.reserve-requires-clause-free
reserve-requires-clause-free c k few =
    let n = c.args.series in
    let m = leaves_at c.self.inside.meta.series n in
    let within : n < length c.self.inside.meta.series = subst (λ (f : Trees). n < length f.meta.series) (sym c.self.view_is) c.requires.known in
    let are : AreLawful m c.get_mut.result.now = subst (AreLawful m) (sym c.get_mut.ensures.item) (lawful_at c.self.inside.meta.series c.self.inside.levels n c.self.invariant.lawful within) in
    free_at c.get_mut.result.now m k are (omega (arith, few, carry_most (get_or c.series.result.now n c.index-series-series.result).leaves))

pub invariant_of-self : goal.invariant_of-self
invariant_of-self c =
    let f : Trees = trees c.self.inside.meta c.self.inside.pool c.self.inside.frames.items c.self.inside.levels c.self.inside.check c.self.inside.since in
    let within : c.args.series < length f.meta.series = subst (λ (t : Trees). c.args.series < length t.meta.series) (sym c.self.view_is) c.requires.known in
    trees_placed f c.args.series c.get_mut.result.now c.reserve.new.self c.self.invariant within c.get_mut.ensures.item c.reserve.ensures.pending c.reserve.ensures.kept

pub returns-clause-same : goal.returns-clause-same
returns-clause-same c =
    let f : Trees = trees c.self.inside.meta c.self.inside.pool c.self.inside.frames.items c.self.inside.levels c.self.inside.check c.self.inside.since in
    let n = c.args.series in
    let within : n < length f.meta.series = subst (λ (t : Trees). n < length t.meta.series) (sym c.self.view_is) c.requires.known in
    let number = leaves_read c.series.result.now f.meta.series n c.index-series-series.result c.series.ensures within in
    elim c.match-reserve.branch [
      | in-Ok w ↦ rw w.result-is (places_for f c.args.self.now n _ c.get_mut.result.now c.reserve.new.self c.self.view_is number c.get_mut.ensures.item w.in-Ok.ensures.places)
      | in-Err w ↦ rw w.result-is tt
    ]

pub returns-clause-places : goal.returns-clause-places
returns-clause-places c =
    let f : Trees = trees c.self.inside.meta c.self.inside.pool c.self.inside.frames.items c.self.inside.levels c.self.inside.check c.self.inside.since in
    let n = c.args.series in
    let within : n < length f.meta.series = subst (λ (t : Trees). n < length t.meta.series) (sym c.self.view_is) c.requires.known in
    let number = leaves_read c.series.result.now f.meta.series n c.index-series-series.result c.series.ensures within in
    elim c.match-reserve.branch [
      | in-Ok w ↦ rw w.result-is (has_places f n _ c.reserve.new.self (omega (arith, within, lawful_long f.meta.series f.levels c.self.invariant.lawful)) number w.in-Ok.ensures.room)
      | in-Err w ↦ rw w.result-is tt
    ]

pub returns-clause-memory : goal.returns-clause-memory
returns-clause-memory c =
    let f : Trees = trees c.self.inside.meta c.self.inside.pool c.self.inside.frames.items c.self.inside.levels c.self.inside.check c.self.inside.since in
    let n = c.args.series in
    let within : n < length f.meta.series = subst (λ (t : Trees). n < length t.meta.series) (sym c.self.view_is) c.requires.known in
    let number = leaves_read c.series.result.now f.meta.series n c.index-series-series.result c.series.ensures within in
    elim c.match-reserve.branch [
      | in-Ok w ↦ rw w.result-is tt
      | in-Err w ↦ rw w.result-is (λ has. w.in-Err.ensures.needed (places_read f c.args.self.now n _ c.get_mut.result.now c.self.view_is number c.get_mut.ensures.item has))
    ]
