use Rattle.std.proofs.Common.{get_or, arith, sym}
use Rattle.std.proofs.lemmas.Int.Digits.{digits_more}
use Rattle.ak_base.proofs.Numerals.{digit_worth, after_more}
use Rattle.ak_base.proofs.digits.digits_at_front.Goals as goal

pub loop-count-preserved : goal.loop-count-preserved
loop-count-preserved c =
    let text = c.args.text.now in
    let i = c.loop-count.count in
    let worth = digit_worth (get_or text i 0) (sym c.if-not-is_ascii_digit.ensures.value) in (
      digits_more 10 text i c.loop-count-test.true c.loop-count.invariant.0 worth.1,
      omega (arith, worth, after_more c.args.before text i c.loop-count-test.true, c.loop-count.invariant.1, c.saturating_mul.ensures, c.saturating_add-number.ensures),
    )
