use Rattle.std.proofs.Common.{arith}
use Rattle.ak_words.proofs.Numbers.{number_read, no_plus}
use Rattle.ak_words.proofs.number.read_number.Goals as goal

pub returns : goal.returns
unfolding lib.Utf8.encode
returns c = rw c.ok.ensures.value (number_read c.args.text.now c.parse.result (omega arith) (no_plus c.args.text.now c.if-starts_with.ensures.cases) c.parse.ensures.value.0)
