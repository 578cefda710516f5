use Rattle.std.proofs.Common.{◌≢◌, ◌*◌, ◌^◌, ℕ, List, [], ◌++◌, length, take, drop, subst, length-take-le, arith}
use Rattle.ak_base.specs.Values.{IsTail}
use Rattle.ak_base.proofs.Decimals.{IsFront, no_tail, some_digits, not_empty, units_some, units_none, plain_units}
use Rattle.ak_base.proofs.value.read_units.Goals as goal
use Rattle.ak_base.proofs.value.read_units.Goals.{else-whole-eq0-via-then-whole-eq0+else-is_empty, else-whole-eq0-via-else-whole-eq0}

pub returns-in_err-fraction-clause-none : goal.returns-in_err-fraction-clause-none
returns-in_err-fraction-clause-none c =
    let text = c.args.text.now in
    let i = c.digits_at_front-whole.result.count in
    let front : IsFront text i = record { digits = c.digits_at_front-whole.ensures.digits; end = c.digits_at_front-whole.ensures.end } in
    let never : (f : List ℕ) → ¬ (IsTail (drop i text) f) = subst (λ t. (f : List ℕ) → ¬ (IsTail t f)) c.split_at.ensures.back c.in_err-fraction.ensures.none in
    rw c.from_residual.ensures (no_tail text i c.args.scale front never)

pub returns-clause-some : goal.returns-clause-some
returns-clause-some c =
    let text = c.args.text.now in
    let i = c.digits_at_front-whole.result.count in
    let f = c.in_ok-fraction.fraction.now in
    let front : IsFront text i = record { digits = c.digits_at_front-whole.ensures.digits; end = c.digits_at_front-whole.ensures.end } in
    let point : IsTail (drop i text) f = subst (λ t. IsTail t f) c.split_at.ensures.back c.in_ok-fraction.ensures.some in
    let some : take i text ++ f ≢ [] = elim c.else-whole-eq0.branch [
      | else-whole-eq0-via-then-whole-eq0+else-is_empty w ↦ some_digits (take i text) f (omega (arith, not_empty (length f) w.if-is_empty.ensures))
      | else-whole-eq0-via-else-whole-eq0 w ↦ some_digits (take i text) f (omega (arith, length-take-le i text c.digits_at_front-whole.ensures.within, w.if-whole-eq0.false))
    ] in
    units_some text f i c.args.scale c.digits_at_front-whole.result.number c.with_fraction.result front point some c.digits_at_front-whole.ensures.number c.with_fraction.ensures

pub returns-clause-none : goal.returns-clause-none
returns-clause-none c =
    let text = c.args.text.now in
    let i = c.digits_at_front-whole.result.count in
    let f = c.in_ok-fraction.fraction.now in
    let front : IsFront text i = record { digits = c.digits_at_front-whole.ensures.digits; end = c.digits_at_front-whole.ensures.end } in
    let point : IsTail (drop i text) f = subst (λ t. IsTail t f) c.split_at.ensures.back c.in_ok-fraction.ensures.some in
    units_none text f i c.args.scale c.digits_at_front-whole.result.number c.with_fraction.result front point c.with_fraction.ensures

pub returns-in-Some-clause-some : goal.returns-in-Some-clause-some
returns-in-Some-clause-some c =
    let found = c.in-Some.ensures.some in
    (c.in-Some.number * 10 ^ c.args.scale, plain_units c.args.text.now c.args.scale c.in-Some.number found.0 found.1 found.2, c.raised.ensures)
