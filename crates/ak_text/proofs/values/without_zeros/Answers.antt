use Rattle.std.proofs.Common.{◌∙◌, arith}
use Rattle.ak_base.proofs.RowTexts.{last_zero, last_other, none_left}
use Rattle.ak_text.proofs.values.without_zeros.Goals.{then-loop-count-test+else-digits-count-eq48, else-loop-count-test}
use Rattle.ak_text.proofs.values.without_zeros.Goals as goal

pub loop-count-preserved : goal.loop-count-preserved
loop-count-preserved c = (
  omega (arith, c.loop-count.invariant.0),
  last_zero c.args.digits.now c.loop-count.count c.loop-count-test.true c.loop-count.invariant.0 c.if-digits-count-eq48.true ∙ c.loop-count.invariant.1,
)

pub returns : goal.returns
returns c = elim c.loop-count-test.branch [
  | then-loop-count-test+else-digits-count-eq48 w ↦ last_other c.args.digits.now c.loop-count.count w.loop-count-test.true c.loop-count.invariant.0 w.if-digits-count-eq48.false ∙ c.loop-count.invariant.1
  | else-loop-count-test w ↦ none_left c.args.digits.now c.loop-count.count (omega (arith, w.loop-count-test.false)) ∙ c.loop-count.invariant.1
]
