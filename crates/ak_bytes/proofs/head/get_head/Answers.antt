use Rattle.std.proofs.Common.{◌≡◌, ◌∙◌, take, drop, sym, subst, arith, rules}
use Rattle.ak_bytes.specs.Head.{IsHead}
use Rattle.ak_bytes.proofs.Heads.{fields_same, head_parts, head_from_parts}
use Rattle.ak_bytes.proofs.Parts.{zeros_long, zeros_own, length-part}
use Rattle.ak_bytes.proofs.head.get_head.Goals as goal
use Rattle.ak_bytes.proofs.head.get_head.Goals.{else-is_head-via-then-is_head+else-is_zero, else-is_head-via-else-is_head}

pub returns-then-is_zero-clause-some : goal.returns-then-is_zero-clause-some
returns-then-is_zero-clause-some c =
    let long = length-part 36 28 c.args.from.now (omega arith) in
    (search rules, head_from_parts c.args.from.now c.get_fields-head.result c.get_fields-head.ensures.fields (zeros_long 28 (take 28 (drop 36 c.args.from.now)) long (c.is_zero.ensures.0 (search rules))))

pub returns-else-is_head-clause-none : goal.returns-else-is_head-clause-none
returns-else-is_head-clause-none c head is e =
    let parts = head_parts c.args.from.now head (omega arith) e in
    let same : c.get_fields-head.result ≡ head = fields_same c.get_fields-head.result head c.get_fields-head.ensures.fits is.fits (sym c.get_fields-head.ensures.fields ∙ parts.0) in
    let mine : IsHead c.get_fields-head.result = subst IsHead (sym same) is in
    elim c.else-is_head.branch [
      | else-is_head-via-then-is_head+else-is_zero w ↦ search (rules, w.if-is_zero.false, w.is_zero.ensures.1 (zeros_own 28 (take 28 (drop 36 c.args.from.now)) parts.1))
      | else-is_head-via-else-is_head w ↦ search (rules, w.if-is_head.false, c.is_head.ensures.1 mine)
    ]
