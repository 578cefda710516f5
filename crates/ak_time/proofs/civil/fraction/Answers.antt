use Rattle.std.proofs.Common.{arith, ap, ◌*◌, length, take, drop, ◌-◌}
use Rattle.ak_time.proofs.Numerals.{fraction_small}
use Rattle.ak_time.proofs.civil.fraction.Goals as goal

pub overflow_mul-result : goal.overflow_mul-result
overflow_mul-result c =
    let digits = take (length c.args.text.now - 1) (drop 1 c.args.text.now) in
    let small = fraction_small c.in_ok-number-in-46.number (length digits) c.if-digits-gt9.false c.in_ok-number-in-46.ensures.small in
    omega (arith, small, ap (λ x. c.in_ok-number-in-46.number * x) c.pow.ensures)
