use Rattle.std.proofs.Common.{◌≡◌, ◌<◌, ℕ, length, take, get_or, arith, sym, inr}
use Rattle.std.proofs.lemmas.Int.Digits.{digits_more}
use Rattle.ak_base.proofs.Numerals.{digit_worth, no_digit, digit-at, after_more, short_more}
use Rattle.ak_base.proofs.digits.short_number.Goals as goal

pub loop-byte-preserved : goal.loop-byte-preserved
loop-byte-preserved c =
    let text = c.args.text.now in
    let i = c.loop-byte.byte-index in
    let worth = digit_worth (get_or text i 0) (sym c.if-not-is_ascii_digit.ensures.value) in (
      digits_more 10 text i c.loop-byte-test.true c.loop-byte.invariant.0 worth.1,
      omega (arith, worth, after_more 0 text i c.loop-byte-test.true, c.loop-byte.invariant.1),
    )

pub overflow_mul-number : goal.overflow_mul-number
overflow_mul-number c =
    omega (arith, short_more c.args.text.now c.loop-byte.byte-index c.loop-byte.number c.if-text-gt-SHORT.false c.loop-byte-test.true c.loop-byte.invariant.0 c.loop-byte.invariant.1)

pub overflow_add-number : goal.overflow_add-number
overflow_add-number c =
    let text = c.args.text.now in
    let i = c.loop-byte.byte-index in
    let worth = digit_worth (get_or text i 0) (sym c.if-not-is_ascii_digit.ensures.value) in
    omega (arith, worth, short_more text i c.loop-byte.number c.if-text-gt-SHORT.false c.loop-byte-test.true c.loop-byte.invariant.0 c.loop-byte.invariant.1)

pub returns-then-not-is_ascii_digit-clause-none : goal.returns-then-not-is_ascii_digit-clause-none
returns-then-not-is_ascii_digit-clause-none c =
    let text = c.args.text.now in
    let i = c.loop-byte.byte-index in
    let other = no_digit (get_or text i 0) (sym c.if-not-is_ascii_digit.ensures.value) in
    inr (inr (λ digits. omega (arith, other, digit-at text i digits c.loop-byte-test.true)))
