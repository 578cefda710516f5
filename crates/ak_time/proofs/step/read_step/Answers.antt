use Rattle.std.proofs.Common.{◌-◌, ◌≤◌, take, drop, length, None, refl, arith}
use Rattle.std.specs.Str.Parse.{digits_value}
use Rattle.ak_time.specs.Steps.{ReadsStep}
use Rattle.ak_time.proofs.Readings.{rest_whole}
use Rattle.ak_time.proofs.StepFacts.{Front, no_long, no_digits, no_unit, step_value, unit_some, finish_some, finish_zero, finish_large, settle_none}
use Rattle.ak_time.proofs.step.read_step.Goals as goal

pub returns-then-count-gt20 : goal.returns-then-count-gt20
returns-then-count-gt20 c =
    let text = c.args.text.now in
    let i = c.digits_at_front-count.result in
    let f : Front text i (take i text) (drop i text) = record { within = c.digits_at_front-count.ensures.within; digits = c.digits_at_front-count.ensures.digits; end = c.digits_at_front-count.ensures.end; front = refl; behind = refl } in
    settle_none (ReadsStep text) None refl (λ n s _ _. no_long text i (take i text) (drop i text) f c.if-count-gt20.true n s)

pub returns-in_err-number : goal.returns-in_err-number
returns-in_err-number c =
    let text = c.args.text.now in
    let i = c.digits_at_front-count.result in
    let f : Front text i (take i text) (drop i text) = record { within = c.digits_at_front-count.ensures.within; digits = c.digits_at_front-count.ensures.digits; end = c.digits_at_front-count.ensures.end; front = refl; behind = refl } in
    settle_none (ReadsStep text) _ c.from_residual.ensures (λ n s _ _. no_digits text i (take i text) (drop i text) f c.in_err-number.ensures n s)

pub returns-in_err-size : goal.returns-in_err-size
returns-in_err-size c =
    let text = c.args.text.now in
    let i = c.digits_at_front-count.result in
    let u = take (length text - i) (drop i text) in
    let f : Front text i (take i text) u = record { within = c.digits_at_front-count.ensures.within; digits = c.digits_at_front-count.ensures.digits; end = c.digits_at_front-count.ensures.end; front = refl; behind = rest_whole i text } in
    settle_none (ReadsStep text) _ c.from_residual-in_err-size.ensures (λ n s _ _. no_unit text i (take i text) u f c.unit_size.result c.in_err-size.was c.unit_size.ensures n s)

pub returns-in-Ok-eq0 : goal.returns-in-Ok-eq0
returns-in-Ok-eq0 c =
    let text = c.args.text.now in
    let i = c.digits_at_front-count.result in
    let u = take (length text - i) (drop i text) in
    let f : Front text i (take i text) u = record { within = c.digits_at_front-count.ensures.within; digits = c.digits_at_front-count.ensures.digits; end = c.digits_at_front-count.ensures.end; front = refl; behind = rest_whole i text } in
    let size = c.in_ok-size.size in
    let some : 1 ≤ size = unit_some u size ((c.unit_size.ensures size).0 c.in_ok-size.was) in
    let value = step_value text i (take i text) u f c.unit_size.result size c.in_ok-size.was c.unit_size.ensures c.if-count-gt20.false c.in_ok-number.ensures.0 in
    settle_none (ReadsStep text) None refl (finish_zero (ReadsStep text) (digits_value 10 (take i text)) size c.in_ok-number.number c.in-Ok-eq0.field-0 c.in_ok-number.ensures.1 some c.in-Ok-eq0.ensures.0 c.in-Ok-eq0.ensures.1 (omega arith) value)

pub returns-in-Ok : goal.returns-in-Ok
returns-in-Ok c =
    let text = c.args.text.now in
    let i = c.digits_at_front-count.result in
    let u = take (length text - i) (drop i text) in
    let f : Front text i (take i text) u = record { within = c.digits_at_front-count.ensures.within; digits = c.digits_at_front-count.ensures.digits; end = c.digits_at_front-count.ensures.end; front = refl; behind = rest_whole i text } in
    let size = c.in_ok-size.size in
    let some : 1 ≤ size = unit_some u size ((c.unit_size.ensures size).0 c.in_ok-size.was) in
    let value = step_value text i (take i text) u f c.unit_size.result size c.in_ok-size.was c.unit_size.ensures c.if-count-gt20.false c.in_ok-number.ensures.0 in
    finish_some (ReadsStep text) (digits_value 10 (take i text)) size c.in_ok-number.number c.in-Ok.step c.in_ok-number.ensures.1 some c.in-Ok.ensures.0 c.in-Ok.ensures.1 c.in-Ok.step-test.1 value

pub returns-in-Err : goal.returns-in-Err
returns-in-Err c =
    let text = c.args.text.now in
    let i = c.digits_at_front-count.result in
    let u = take (length text - i) (drop i text) in
    let f : Front text i (take i text) u = record { within = c.digits_at_front-count.ensures.within; digits = c.digits_at_front-count.ensures.digits; end = c.digits_at_front-count.ensures.end; front = refl; behind = rest_whole i text } in
    let size = c.in_ok-size.size in
    let value = step_value text i (take i text) u f c.unit_size.result size c.in_ok-size.was c.unit_size.ensures c.if-count-gt20.false c.in_ok-number.ensures.0 in
    settle_none (ReadsStep text) None refl (finish_large (ReadsStep text) (digits_value 10 (take i text)) size c.in_ok-number.number c.in_ok-number.ensures.1 c.in-Err.ensures value)
