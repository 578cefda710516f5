use Rattle.std.proofs.Common.{◌≡◌, ◌%◌, arith}
use Rattle.ak_levels.proofs.Powers.{divided, carry_is, carry_divides, carry_counts}
use Rattle.ak_levels.proofs.carries.carry.Goals as goal

pub loop-levels-preserved : goal.loop-levels-preserved
loop-levels-preserved c =
    let whole : c.loop-levels.left % 32 ≡ 0 = c.if-left-eq0.true in
    record { few = omega arith; whole = divided c.args.m c.loop-levels.levels c.loop-levels.left whole c.loop-levels.invariant.whole; some = omega arith }

pub returns-else-left-eq0-clause-carry : goal.returns-else-left-eq0-clause-carry
returns-else-left-eq0-clause-carry c = carry_is c.args.m c.loop-levels.levels c.loop-levels.left c.loop-levels.invariant.few c.loop-levels.invariant.whole (λ h. c.if-left-eq0.false)

pub returns-after-loop-levels-clause-carry : goal.returns-after-loop-levels-clause-carry
returns-after-loop-levels-clause-carry c = carry_is c.args.m c.loop-levels.levels c.loop-levels.left c.loop-levels.invariant.few c.loop-levels.invariant.whole (λ h. absurd (omega (arith, h)))

pub returns-else-left-eq0-clause-divides : goal.returns-else-left-eq0-clause-divides
returns-else-left-eq0-clause-divides c k top = let is = returns-else-left-eq0-clause-carry c in (carry_divides c.args.m _ k is top, carry_counts c.args.m _ k is top)

pub returns-after-loop-levels-clause-divides : goal.returns-after-loop-levels-clause-divides
returns-after-loop-levels-clause-divides c k top = let is = returns-after-loop-levels-clause-carry c in (carry_divides c.args.m _ k is top, carry_counts c.args.m _ k is top)
