use Rattle.std.proofs.Common.{ℕ, refl, ◌∙◌, ◌+◌, ◌-◌, ◌^◌, min, ap, arith}
use Rattle.ak_node.proofs.Looking.{places_none, places_more, has_is, late_more, need_more, need_end}
use Rattle.ak_node.proofs.look.look_at.Goals as goal

pub loop-at-init : goal.loop-at-init
loop-at-init c = record { late = refl; need = omega (arith, c.need-need.ensures); small = omega arith; places = places_none 32 c.args.names.now c.args.index.now }

pub loop-at-preserved : goal.loop-at-preserved
loop-at-preserved c =
    let known = c.args.index.now in
    let names = c.args.names.now in
    let name = c.index-names-at.result in
    record {
      late = late_more c.args.forest.now known names c.args.time c.loop-at.at c.loop-at.late c.first_late-late.result c.late_at.result c.id-place.result _ name _ c.loop-at-test.true c.index-names-at.is c.id-place.ensures c.late_at.ensures c.first_late-late.ensures c.loop-at.invariant.late;
      need = need_more known names c.loop-at.at c.loop-at.need c.saturating_add-need.result _ name _ c.is_some.result c.loop-at-test.true c.index-names-at.is
          (c.is_some.ensures ∙ has_is known name c.id-place.result c.id-place.ensures)
          (c.saturating_add-need.ensures ∙ ap (λ (n : ℕ). min (c.loop-at.need + n) (2 ^ 64 - 1)) c.size_with.ensures)
          c.loop-at.invariant.need;
      small = omega (arith, c.saturating_add-need.ensures);
      places = places_more c.loop-at.places _ names known c.loop-at.at c.id-place.result name _ c.loop-at-test.true c.index-names-at.is c.id-place.ensures c.keep_place.ensures c.loop-at.invariant.places;
    }

pub returns-clause-need : goal.returns-clause-need
returns-clause-need c =
    need_end c.args.forest.now.meta c.args.index.now c.args.names.now c.loop-at.at _ c.loop-at.need c.requires (omega (arith, c.loop-at-test.false)) (omega (arith, c.loop-at.invariant.small)) refl c.loop-at.invariant.need
