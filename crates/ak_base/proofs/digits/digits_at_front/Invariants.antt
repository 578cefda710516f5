use Rattle.std.proofs.Common.{◌≡◌, ◌-◌, ◌^◌, min, take}
use Rattle.std.specs.Str.Parse.{AllDigits, digits_value_after}
use Rattle.ak_base.proofs.digits.digits_at_front.Given as goal

abbrev pub invariant-loop-count : goal.invariant-loop-count
invariant-loop-count l =
    AllDigits 10 (take l.count l.text) × (l.number ≡ min (digits_value_after 10 l.before (take l.count l.text)) (2 ^ 64 - 1))
