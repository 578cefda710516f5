use Rattle.std.proofs.Common.{arith, rules, ◌%◌}
use Rattle.ak_time.proofs.Shapes.{nine_digits}
use Rattle.ak_time.proofs.text.nine.Goals as goal

pub returns-clause-digits : goal.returns-clause-digits
returns-clause-digits c =
    (omega arith, (nine_digits c.four-high.result c.four-low.result (c.args.n % 10) (search rules) (search rules) c.four-high.ensures.digits c.four-low.ensures.digits (omega arith)).0)

pub returns-clause-value : goal.returns-clause-value
returns-clause-value c =
    let value = (nine_digits c.four-high.result c.four-low.result (c.args.n % 10) (search rules) (search rules) c.four-high.ensures.digits c.four-low.ensures.digits (omega arith)).1 in
    omega (arith, value, c.four-high.ensures.value, c.four-low.ensures.value)
