use Rattle.std.proofs.lemmas.List.{take_rest}
use Rattle.ak_resp.proofs.Texts.{integer_part}
use Rattle.ak_resp.proofs.puts.integer_at_front.Goals as goal

pub returns-clause-spells : goal.returns-clause-spells
returns-clause-spells c =
    let content = rw take_rest at c.in_ok-end.ensures.content in
    let ends = rw take_rest at c.in_ok-end.ensures.end in
    rw take_rest (integer_part c.args.bytes.now c.in_ok-end.end c.requires.some c.requires.is content ends)
