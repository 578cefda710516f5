use Rattle.std.proofs.Common.{◌-◌, ◌^◌, refl}
use Rattle.ak_base.proofs.Decimals.{IsCut, not_digits, fraction_units}
use Rattle.ak_base.proofs.value.with_fraction.Goals as goal

pub returns-then-front-places : goal.returns-then-front-places
returns-then-front-places c = λ h.
    not_digits c.args.fraction.now c.split_at.result.0.now c.min-places.result c.digits_at_front-front.result.count c.split_at.ensures.front c.split_at.ensures.front_len c.if-front-places.true c.digits_at_front-front.ensures.end h.0

pub returns : goal.returns
returns c =
    let f = c.args.fraction.now in
    let kept = c.split_at.result.0.now in
    let past = c.split_at.result.1.now in
    let cut : IsCut f kept past c.args.scale c.min-places.result = record { count = c.min-places.ensures; front = c.split_at.ensures.front; rest = c.split_at.ensures.back; long = c.split_at.ensures.front_len } in
    fraction_units c.args.whole c.args.scale c.min-places.result c.digits_at_front-front.result.count c.digits_at_front-front.result.number (10 ^ (c.args.scale - c.min-places.result)) c.raised.result f kept past cut
    c.digits_at_front-front.ensures.digits c.if-front-places.false (c.if-not-are_zeros.ensures.0 refl) c.digits_at_front-front.ensures.number refl c.raised.ensures
