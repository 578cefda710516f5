use Rattle.std.proofs.Common.{length, arith}
use Rattle.std.proofs.lemmas.Int.Digits.{digits_value-lt}
use Rattle.ak_time.proofs.Numerals.{tens_small}
use Rattle.ak_time.proofs.digits.field.Goals as goal

pub overflow_cast-result : goal.overflow_cast-result
overflow_cast-result c = omega (arith, c.in-Some.ensures.1, digits_value-lt 10 c.args.digits.now c.in-Some.ensures.0.1, tens_small (length c.args.digits.now) c.requires)

pub returns-in-Some-clause-exact : goal.returns-in-Some-clause-exact
returns-in-Some-clause-exact c =
    (c.in-Some.ensures.0, omega (arith, c.in-Some.ensures.1, digits_value-lt 10 c.args.digits.now c.in-Some.ensures.0.1, tens_small (length c.args.digits.now) c.requires))

pub returns-in-Some-clause-small : goal.returns-in-Some-clause-small
returns-in-Some-clause-small c = omega (arith, c.in-Some.ensures.1, digits_value-lt 10 c.args.digits.now c.in-Some.ensures.0.1, tens_small (length c.args.digits.now) c.requires)
