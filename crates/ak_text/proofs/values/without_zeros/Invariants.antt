use Rattle.std.proofs.Common.{◌≡◌, ◌≤◌, length, take}
use Rattle.ak_base.specs.RowTexts.{trimmed}
use Rattle.ak_text.proofs.values.without_zeros.Given as goal

abbrev pub invariant-loop-count : goal.invariant-loop-count
invariant-loop-count l = (l.count ≤ length l.digits) × (trimmed (take l.count l.digits) ≡ trimmed l.digits)

abbrev pub decreases-loop-count : goal.decreases-loop-count
decreases-loop-count l = l.count
