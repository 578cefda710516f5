use Rattle.std.proofs.Common.{◌≡◌, ◌++◌, ap, arith, length, List, ℕ, Result, Ok, Err, OnOk, is_ok, if◌then◌else◌}
use Rattle.std.specs.Fmt.{decimal}
use Rattle.ak_base.proofs.RowTexts.{length_fits, fraction_written}
use Rattle.ak_text.proofs.values.write_fraction.Goals as goal

on_ok : {T E : Type 0} (r : Result T E) (new more same : List ℕ) → new ≡ (if is_ok r then more else same) → OnOk r (new ≡ more)
on_ok (Ok x) new more same e = e
on_ok (Err x) new more same e = tt

pub slice_bounds-zeros-count : goal.slice_bounds-zeros-count
slice_bounds-zeros-count c =
    let same : c.as_bytes-digits.result.now ≡ decimal c.args.rest = cc in
    let fits = length_fits c.args.scale c.args.rest (omega (arith, c.if-rest-eq0.false)) c.requires.below (omega (arith, c.ranges.rest.fits)) in
    omega (arith, ap (λ (l : List ℕ). length l) same, fits)

pub returns : goal.returns
returns c =
    let digits : c.as_bytes-digits.result.now ≡ decimal c.args.rest = cc in
    fraction_written c.extend_from_slice-2.result c.args.row.now.items c.push.new.self.items c.extend_from_slice.new.self.items c.extend_from_slice-2.new.self.items c.without_zeros.result.now c.as_bytes-digits.result.now c.args.scale c.args.rest
    (omega (arith, c.if-rest-eq0.false)) (omega (arith, c.ranges.rest.fits)) c.requires.scale digits c.in_ok-push.ensures.items c.in_ok-extend_from_slice.ensures.items c.without_zeros.ensures
    (on_ok c.extend_from_slice-2.result c.extend_from_slice-2.new.self.items (c.extend_from_slice.new.self.items ++ c.without_zeros.result.now) c.extend_from_slice.new.self.items c.extend_from_slice-2.ensures.items)
