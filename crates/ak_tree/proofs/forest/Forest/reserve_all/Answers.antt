use Rattle.std.proofs.Common.{◌∙◌, ◌<◌, length, sym, ap, subst, arith}
use Rattle.ak_tree.specs.Standing.{Trees, AreTrees}
use Rattle.ak_tree.proofs.Closed.{found_some, found_none}
use Rattle.ak_tree.proofs.Telling.{memory_from}
use Rattle.ak_tree.proofs.Waiting.{places_on, places_next, other_levels, places_more, places_none, places_wanted, places_opened}
use Rattle.ak_tree.proofs.forest.Forest.reserve_all.Goals.{then-is_some+in_ok-reserve, else-is_some}
use Rattle.ak_tree.proofs.forest.Forest.reserve_all.Goals as goal

pub returns-in_err-reserve-clause-memory : goal.returns-in_err-reserve-clause-memory
returns-in_err-reserve-clause-memory c =
    let i = c.loop-n.n in
    let now = c.loop-n.self in
    let are : AreTrees now = subst AreTrees c.self-in-loop-n.view_is c.self-in-loop-n.invariant in
    let first : i < length c.args.self.now.meta.series = omega (arith, c.loop-n-test.true, ap length c.series.ensures, ap (λ (t : Trees). length t.meta.series) c.self.view_is) in
    let number : i < length now.frames = omega (arith, first, are.pooled.number, ap (λ (t : Trees). length t.meta.series) c.loop-n.invariant.same.others) in
    let opened = found_some c.self-in-loop-n.inside.frames.items now.frames i c.index.result.now (ap (λ (t : Trees). t.frames) c.self-in-loop-n.view_is) number c.index.ensures (sym c.is_some.ensures ∙ c.if-is_some.true) in
    memory_from c.from_residual.result c.in_err-reserve.field-0.0 c.from_residual.ensures.1
    (λ wanted. places_wanted c.args.self.now now i c.loop-n.invariant.same (c.loop-n.invariant.behind i (omega arith)) opened wanted) c.in_err-reserve.ensures.memory

pub returns-in_err-reserve-clause-opens : goal.returns-in_err-reserve-clause-opens
returns-in_err-reserve-clause-opens c =
    let i = c.loop-n.n in
    let f = c.args.self.now in
    let now = c.loop-n.self in
    let are : AreTrees now = subst AreTrees c.self-in-loop-n.view_is c.self-in-loop-n.invariant in
    let first : i < length f.meta.series = omega (arith, c.loop-n-test.true, ap length c.series.ensures, ap (λ (t : Trees). length t.meta.series) c.self.view_is) in
    let number : i < length now.frames = omega (arith, first, are.pooled.number, ap (λ (t : Trees). length t.meta.series) c.loop-n.invariant.same.others) in
    let opened = found_some c.self-in-loop-n.inside.frames.items now.frames i c.index.result.now (ap (λ (t : Trees). t.frames) c.self-in-loop-n.view_is) number c.index.ensures (sym c.is_some.ensures ∙ c.if-is_some.true) in
    memory_from c.from_residual.result c.in_err-reserve.field-0.0 c.from_residual.ensures.1
    (λ wanted. places_opened f now i (subst AreTrees c.self.view_is c.self.invariant) first c.loop-n.invariant.same (c.loop-n.invariant.behind i (omega arith)) opened wanted) c.in_err-reserve.ensures.memory

pub loop-n-preserved : goal.loop-n-preserved
loop-n-preserved c =
    let i = c.loop-n.n in
    let now = c.loop-n.self in
    let before = c.loop-n.invariant in
    let are : AreTrees now = subst AreTrees c.self-in-loop-n.view_is c.self-in-loop-n.invariant in
    let first : i < length c.args.self.now.meta.series = omega (arith, c.loop-n-test.true, ap length c.series.ensures, ap (λ (t : Trees). length t.meta.series) c.self.view_is) in
    let number : i < length now.frames = omega (arith, first, are.pooled.number, ap (λ (t : Trees). length t.meta.series) before.same.others) in
    let same = ap (λ (t : Trees). t.frames) c.self-in-loop-n.view_is in
    elim c.if-is_some.branch [
      | then-is_some+in_ok-reserve b ↦
          rw b.self-is (record {
            same = places_on c.args.self.now now b.reserve.new.self before.same (places_next now b.reserve.new.self i b.in_ok-reserve.ensures.same);
            places = places_more now b.reserve.new.self i b.in_ok-reserve.ensures.same b.in_ok-reserve.ensures.places before.places;
            behind = λ n past. other_levels now b.reserve.new.self i n b.in_ok-reserve.ensures.same (λ e. omega (arith, e, past)) ∙ before.behind n (omega (arith, past));
          })
      | else-is_some b ↦
          let none = found_none c.self-in-loop-n.inside.frames.items now.frames i c.index.result.now same number c.index.ensures (sym c.is_some.ensures ∙ b.if-is_some.false) in
          rw b.self-is (record {
            same = before.same;
            places = places_none now i none before.places;
            behind = λ n past. before.behind n (omega (arith, past));
          })
    ]
