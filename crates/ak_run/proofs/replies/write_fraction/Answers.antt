use Rattle.std.proofs.Common.{◌≡◌, ap, arith, length, List, ℕ}
use Rattle.std.specs.Fmt.{decimal}
use Rattle.ak_base.proofs.RowTexts.{length_fits, fraction_written}
use Rattle.ak_run.proofs.replies.write_fraction.Goals as goal

pub slice_bounds-zeros-count : goal.slice_bounds-zeros-count
slice_bounds-zeros-count c =
    let same : c.as_bytes-digits.result.now ≡ decimal c.args.rest = cc in
    let fits = length_fits c.args.scale c.args.rest (omega (arith, c.if-rest-eq0.false)) c.requires.below (omega (arith, c.ranges.rest.fits)) in
    omega (arith, ap (λ (l : List ℕ). length l) same, fits)

pub returns : goal.returns
returns c =
    let digits : c.as_bytes-digits.result.now ≡ decimal c.args.rest = cc in
    fraction_written c.extend-3.result c.args.text.now c.extend.new.self c.extend-2.new.self c.extend-3.new.self c.without_zeros.result.now c.as_bytes-digits.result.now c.args.scale c.args.rest
    (omega (arith, c.if-rest-eq0.false)) (omega (arith, c.ranges.rest.fits)) c.requires.scale digits c.in_ok-extend.ensures.ok c.in_ok-extend-2.ensures.ok c.without_zeros.ensures c.extend-3.ensures.ok
