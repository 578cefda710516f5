use Rattle.std.proofs.Common.{sym}
use Rattle.ak_http.proofs.Lengths.{value_over}
use Rattle.ak_http.proofs.head.read_length.Goals as goal

pub returns-then-length-gt-MAX_BODY : goal.returns-then-length-gt-MAX_BODY
returns-then-length-gt-MAX_BODY c =
    sym (value_over c.args.text.now c.loop-byte.length c.loop-byte.byte-index c.loop-byte-test.true c.loop-byte.invariant.value (rw c.from.ensures at c.if-length-gt-MAX_BODY.true))
