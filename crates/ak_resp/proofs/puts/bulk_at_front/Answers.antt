use Rattle.std.proofs.lemmas.List.{take_rest}
use Rattle.ak_resp.specs.Puts.{IsEnd}
use Rattle.std.proofs.Common.{drop, ◌+◌}
use Rattle.ak_resp.proofs.Texts.{bulk_part}
use Rattle.ak_resp.proofs.puts.bulk_at_front.Goals as goal

pub returns-clause-spells : goal.returns-clause-spells
returns-clause-spells c =
    let xs = c.args.bytes.now in
    let k = c.in_ok-count.count in
    let count = rw take_rest at c.in_ok-count.ensures.is in
    let ends = rw take_rest at c.in_ok-count.ensures.end in
    let content : IsEnd (drop (k.digits + 3) xs) k.number = rw take_rest at (c.is_end.ensures.0 c.if-not-is_end.false) in
    rw take_rest (bulk_part xs k.digits k.number c.requires.some c.requires.is c.in_ok-count.ensures.some count ends c.if-count-gt-MAX_CONTENT.false content)
