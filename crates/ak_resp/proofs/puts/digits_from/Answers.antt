use Rattle.std.proofs.Common.{ℕ, ◌≡◌, ◌+◌, ◌*◌, get_or, arith, sym, subst, ◌∙◌, true}
use Rattle.ak_resp.specs.Kinds.{is_digit}
use Rattle.ak_resp.specs.Grammar.{IsDigit}
use Rattle.ak_resp.specs.Puts.{IsCount}
use Rattle.ak_resp.proofs.Sound.{digit_from}
use Rattle.ak_resp.proofs.Numbers.{count_small, count_more}
use Rattle.ak_resp.proofs.puts.digits_from.Goals as goal

pub overflow_mul-number : goal.overflow_mul-number
overflow_mul-number c =
    let small = count_small c.args.bytes.now c.digits.digits c.digits.number c.digits.invariant c.digits-test.true in
    omega (arith, small)

pub overflow_add-number : goal.overflow_add-number
overflow_add-number c =
    let small = count_small c.args.bytes.now c.digits.digits c.digits.number c.digits.invariant c.digits-test.true in
    let is : is_digit (get_or c.args.bytes.now c.digits.digits 0) ≡ true = sym c.is_digit.ensures ∙ c.if-is_digit.true in
    omega (arith, small, c.from.ensures, (digit_from (get_or c.args.bytes.now c.digits.digits 0) is).most)

pub digits-preserved : goal.digits-preserved
digits-preserved c =
    let is : is_digit (get_or c.args.bytes.now c.digits.digits 0) ≡ true = sym c.is_digit.ensures ∙ c.if-is_digit.true in
    let digit : IsDigit (get_or c.args.bytes.now c.digits.digits 0) = digit_from (get_or c.args.bytes.now c.digits.digits 0) is in
    subst (λ (d : ℕ). IsCount c.args.bytes.now (c.digits.digits + 1) (c.digits.number * 10 + d)) (sym c.from.ensures)
    (count_more c.args.bytes.now c.digits.digits c.digits.number c.digits.invariant c.digits-test.true c.if-digits-bytes.true digit)
