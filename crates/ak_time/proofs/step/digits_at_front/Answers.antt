use Rattle.std.proofs.Common.{get_or, sym}
use Rattle.std.proofs.lemmas.Int.Digits.{digits_more}
use Rattle.ak_time.proofs.Numerals.{digit_worth}
use Rattle.ak_time.proofs.step.digits_at_front.Goals as goal

pub loop-i-preserved : goal.loop-i-preserved
loop-i-preserved c =
    let text = c.args.text.now in
    digits_more 10 text c.loop-i.i c.loop-i-test.true c.loop-i.invariant (digit_worth (get_or text c.loop-i.i 0) (sym c.if-not-is_ascii_digit.ensures.value)).1
