use Rattle.std.proofs.Common.{◌≡◌, ◌+◌, ◌-◌, ◌≤◌, ◌∷◌, ◌++◌, length, drop, ap, sym, subst, arith, ◌∙◌}
use Rattle.std.specs.Fmt.{decimal}
use Rattle.ak_run.specs.Replies.{crlf}
use Rattle.ak_run.proofs.Heads.{head_length, head_written}
use Rattle.ak_run.proofs.bulks.write_head.Goals as goal

pub returns-clause-long : goal.returns-clause-long
returns-clause-long c =
    let digits = c.as_bytes-digits.result.now in
    let most : length digits ≤ 20 = subst (λ ds. length ds ≤ 20) (sym c.as_bytes-digits.ensures.value) c.format.ensures.fits in
    let long : (20 - length digits) + 1 + length digits ≡ 21 = omega (arith, most) in
    head_length c.args.reply.now c.overwrite.new.self c.overwrite-2.new.self c.overwrite-3.new.self digits (20 - length digits) long c.requires c.overwrite.ensures c.overwrite-2.ensures c.overwrite-3.ensures

pub returns-clause-is : goal.returns-clause-is
returns-clause-is c =
    let digits = c.as_bytes-digits.result.now in
    let most : length digits ≤ 20 = subst (λ ds. length ds ≤ 20) (sym c.as_bytes-digits.ensures.value) c.format.ensures.fits in
    let long : (20 - length digits) + 1 + length digits ≡ 21 = omega (arith, most) in
    let are : digits ≡ decimal c.args.count = cc in
    head_written c.args.reply.now c.overwrite.new.self c.overwrite-2.new.self c.overwrite-3.new.self digits (20 - length digits) long c.requires c.overwrite.ensures c.overwrite-2.ensures c.overwrite-3.ensures
    ∙ ap (λ ds. 36 ∷ (ds ++ (crlf ++ drop 23 c.args.reply.now))) are
