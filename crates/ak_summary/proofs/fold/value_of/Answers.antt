use Rattle.std.proofs.Common.{◌+◌, ◌<◌, List, length, sym, subst, arith}
use Rattle.std.proofs.lemmas.List.{take_more, take_all, length-take-le}
use Rattle.ak_base.specs.declared.point.Point.{Point}
use Rattle.ak_base.specs.Points.{IsHistory}
use Rattle.ak_summary.proofs.Parts.{history_take, rest_below, rest_more, rest_all}
use Rattle.ak_summary.proofs.fold.value_of.Goals as goal

pub loop-p-init : goal.loop-p-init
loop-p-init g c =
    let some : 0 < length c.args.points.now = grind (arith, c.is_empty.ensures, c.if-is_empty.false) in
    subst (λ (ps : List Point). g.F.Fold.is_value ps c.of-value.result) (sym (take_more c.args.points.now 0 _ some)) c.of-value.ensures

pub join-value-requires : goal.join-value-requires
join-value-requires g c =
    let below = rest_below c.args.points.now c.loop-p.p-index c.loop-p-test.true in
    g.met.F.Fold.short_lists_join _ _ _ _ c.loop-p.invariant c.of.ensures (omega (arith, below, length-take-le (c.loop-p.p-index + 1) c.args.points.now (omega (arith, below))))

pub loop-p-preserved : goal.loop-p-preserved
loop-p-preserved g c =
    let more = rest_more c.args.points.now c.loop-p.p-index _ c.loop-p-test.true in
    subst (λ (ps : List Point). g.F.Fold.is_value ps c.join-value.result) (sym more)
    (c.join-value.ensures _ _ (subst IsHistory more (history_take c.args.points.now (c.loop-p.p-index + 1 + 1) c.requires)) c.loop-p.invariant c.of.ensures)

pub returns-clause-some : goal.returns-clause-some
returns-clause-some g c =
    let some : 0 < length c.args.points.now = grind (arith, c.is_empty.ensures, c.if-is_empty.false) in
    subst (λ (ps : List Point). g.F.Fold.is_value ps c.loop-p.value) (take_all (c.loop-p.p-index + 1) c.args.points.now (rest_all c.args.points.now c.loop-p.p-index some c.loop-p-test.false)) c.loop-p.invariant
