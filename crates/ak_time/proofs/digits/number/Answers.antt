use Rattle.std.proofs.Common.{get_or, arith, sym}
use Rattle.std.proofs.lemmas.Int.Digits.{digits_value_more, digits_more}
use Rattle.ak_time.proofs.Numerals.{digit_worth, no_digit, digit-at}
use Rattle.ak_time.proofs.digits.number.Goals as goal
use Rattle.ak_time.proofs.digits.number.Goals.{then-next-lt-TOO_LARGE, else-next-lt-TOO_LARGE}

pub returns-then-not-is_ascii_digit : goal.returns-then-not-is_ascii_digit
returns-then-not-is_ascii_digit c = λ numeral.
    absurd (omega (arith, no_digit (get_or c.args.digits.now c.loop-byte.byte-index 0) (sym c.if-not-is_ascii_digit.ensures.value), digit-at c.args.digits.now c.loop-byte.byte-index numeral.1 c.loop-byte-test.true))

pub loop-byte-preserved : goal.loop-byte-preserved
loop-byte-preserved c =
    let ds = c.args.digits.now in
    let i = c.loop-byte.byte-index in
    let worth = digit_worth (get_or ds i 0) (sym c.if-not-is_ascii_digit.ensures.value) in
    let more = digits_value_more 10 ds i c.loop-byte-test.true in
    (digits_more 10 ds i c.loop-byte-test.true c.loop-byte.invariant.0 worth.1, elim c.if-next-lt-TOO_LARGE.branch [ then-next-lt-TOO_LARGE w ↦ omega (arith, worth, more) | else-next-lt-TOO_LARGE w ↦ omega (arith, worth, more) ])
