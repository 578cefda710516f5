use Rattle.std.proofs.Common.{◌<◌, ◌^◌, arith, sym, subst, ◌%◌, ℕ}
use Rattle.std.proofs.Math.Nat.{mod-lt}
use Rattle.ak_base.proofs.Numerals.{tens_pos}
use Rattle.ak_time.proofs.Numerals.{tens_small}
use Rattle.ak_text.proofs.values.write_large.Goals as goal

pub nonzero_div-units : goal.nonzero_div-units
nonzero_div-units c = omega (arith, tens_pos c.args.scale, c.pow-one.ensures)

pub nonzero_rem-units : goal.nonzero_rem-units
nonzero_rem-units c = omega (arith, tens_pos c.args.scale, c.pow-one.ensures)

pub write_fraction-requires-clause-below : goal.write_fraction-requires-clause-below
write_fraction-requires-clause-below c =
    subst (λ (n : ℕ). c.args.units % n < 10 ^ c.args.scale) (sym c.pow-one.ensures) (mod-lt c.args.units (tens_pos c.args.scale))

pub overflow_cast-units : goal.overflow_cast-units
overflow_cast-units c =
    let some : 0 < c.pow-one.result = omega (arith, tens_pos c.args.scale, c.pow-one.ensures) in
    omega (arith, mod-lt c.args.units some, tens_small c.args.scale c.requires, c.pow-one.ensures)
