use Rattle.std.proofs.Common.{arith}
use Rattle.ak_node.proofs.KnownPuts.{by_numbers}
use Rattle.ak_node.proofs.taken.kept_one.Goals as goal

pub returns-in-len1 : goal.returns-in-len1
returns-in-len1 c =
    by_numbers c.args.index.now c.args.text.now c.in_ok-known.field-0.now c.requires (omega (arith, c.in-len1.len_at_least, c.in-len1.len_below)) c.in_ok-known.ensures.known c.in_ok-known.ensures.names
