use Rattle.std.proofs.Common.{◌<◌, ◌^◌, arith, sym, subst, ◌%◌, ℕ}
use Rattle.std.proofs.Math.Nat.{mod-lt}
use Rattle.ak_base.proofs.Numerals.{tens_pos}
use Rattle.ak_run.proofs.replies.write_size.Goals as goal

pub nonzero_div-units : goal.nonzero_div-units
nonzero_div-units c = omega (arith, tens_pos c.args.scale, c.pow-one.ensures)

pub nonzero_rem-units : goal.nonzero_rem-units
nonzero_rem-units c = omega (arith, tens_pos c.args.scale, c.pow-one.ensures)

pub write_fraction-requires-clause-below : goal.write_fraction-requires-clause-below
write_fraction-requires-clause-below c =
    subst (λ (n : ℕ). c.args.units % n < 10 ^ c.args.scale) (sym c.pow-one.ensures) (mod-lt c.args.units (tens_pos c.args.scale))
