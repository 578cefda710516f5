use Rattle.std.proofs.Common.{◌≡◌, arith, refl, subst, sym, drop, ◌∙◌, ap, rules}
use Rattle.ak_time.specs.Times.{IsFraction, fraction_nanos, IsCivilText}
use Rattle.ak_time.proofs.Readings.{rest_whole}
use Rattle.ak_time.proofs.civil.parts_in.Goals as goal

pub returns-in_err-fraction : goal.returns-in_err-fraction
returns-in_err-fraction c =
    let text = c.args.text.now in
    rw c.from_residual-in_err-fraction.ensures (λ (h : IsCivilText text). c.in_err-fraction.ensures (subst IsFraction (sym (rest_whole 15 text)) h.fraction))

pub returns : goal.returns
returns c =
    let text = c.args.text.now in
    let whole = rest_whole 15 text in
    let fraction : IsFraction (drop 15 text) = subst IsFraction whole c.in_ok-fraction.ensures.0 in
    let nanos : c.in_ok-fraction.field-0 ≡ fraction_nanos (drop 15 text) = c.in_ok-fraction.ensures.1 ∙ ap fraction_nanos whole in (
      record {
        long = omega arith;
        year = c.in_ok-field.ensures.exact.0;
        month = c.in_ok-field-2.ensures.exact.0;
        day = c.in_ok-field-3.ensures.exact.0;
        mark = search rules;
        hour = c.in_ok-field-4.ensures.exact.0;
        minute = c.in_ok-field-5.ensures.exact.0;
        second = c.in_ok-field-6.ensures.exact.0;
        fraction = fraction;
      },
      rw (c.in_ok-field.ensures.exact.1, c.in_ok-field-2.ensures.exact.1, c.in_ok-field-3.ensures.exact.1, c.in_ok-field-4.ensures.exact.1, c.in_ok-field-5.ensures.exact.1, c.in_ok-field-6.ensures.exact.1, nanos) refl,
    )
