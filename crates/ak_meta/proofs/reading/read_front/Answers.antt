use Rattle.std.proofs.Common.{rules, ◌≡◌, ◌<◌, ◌^◌, ◌∙◌, length, take, [], sym, ap, subst, arith}
use Rattle.std.proofs.lemmas.List.{take_all}
use Rattle.byteorder.specs.Endian.{little_bytes}
use Rattle.ak_base.specs.Ranges.{AreLimits}
use Rattle.ak_bytes.proofs.FixedFields.{same_field}
use Rattle.ak_meta.proofs.Spellings.{FitFields, limits_fit, front_limits, front_read, length-front}
use Rattle.ak_meta.proofs.reading.read_front.Goals as goal
use Rattle.ak_meta.proofs.reading.read_front.Goals.{then-get_u32-ne-FORMAT-via-then-get_u32-ne-FORMAT, then-get_u32-ne-FORMAT-via-else-get_u32-ne-FORMAT+then-not-are_limits}

pub returns-then-from-lt-FRONT-clause-bad : goal.returns-then-from-lt-FRONT-clause-bad
returns-then-from-lt-FRONT-clause-bad c limits lo live series are e =
    let from = c.args.from.now in
    omega (arith, c.if-from-lt-FRONT.true, ap length e, length-front limits lo live series, ap length (take_all 40 from (omega (arith, c.if-from-lt-FRONT.true))))

pub returns-then-get_u32-ne-FORMAT-clause-bad : goal.returns-then-get_u32-ne-FORMAT-clause-bad
returns-then-get_u32-ne-FORMAT-clause-bad c limits lo live series are e =
    let from = c.args.from.now in
    let found = c.get_front-front.result.limits in
    let fits : FitFields found = record {
      volumes = search rules;
      blocks = search rules;
      slot = search rules;
      pool = search rules;
      every = search rules;
      scale = search rules;
    } in
    let parts = front_limits (take 4 from) found limits c.get_front-front.result.lo c.get_front-front.result.live c.get_front-front.result.series lo live series fits (limits_fit limits are) (sym c.get_front-front.ensures ∙ e) in
    let small : c.get_u32.result < 2 ^ 32 = search rules in
    let format = same_field 4 c.get_u32.result 1 [] [] (omega (arith, small)) (omega arith) (sym c.get_u32.ensures ∙ parts.0) in
    let mine : AreLimits found = subst AreLimits (sym parts.1) are in
    elim c.then-get_u32-ne-FORMAT.branch [
      | then-get_u32-ne-FORMAT-via-then-get_u32-ne-FORMAT w ↦ w.if-get_u32-ne-FORMAT.true format.1
      | then-get_u32-ne-FORMAT-via-else-get_u32-ne-FORMAT+then-not-are_limits w ↦ search (rules, w.are_limits.ensures.1 mine)
    ]

pub returns-clause-bytes : goal.returns-clause-bytes
returns-clause-bytes c =
    let from = c.args.from.now in
    let found = c.get_front-front.result in
    let format : take 4 from ≡ little_bytes 4 1 = c.get_u32.ensures ∙ ap (little_bytes 4) c.if-get_u32-ne-FORMAT.false in
    (omega (arith, c.if-from-lt-FRONT.false), front_read found.limits found.lo found.live found.series (take 4 from) (take 40 from) c.get_front-front.ensures format)
