use Rattle.std.proofs.Common.{◌+◌, ◌-◌, ◌∙◌, ap, take, length, arith}
use Rattle.std.proofs.lemmas.List.{length_push}
use Rattle.ak_inner.proofs.Lists.{read_more}
use Rattle.ak_inner.proofs.inner.Inner.get_refs.Goals as goal

pub loop-preserved : goal.loop-preserved
loop-preserved c = record {
  count = ap length c.push.ensures ∙ length_push c.loop.self c.get_ref.result ∙ omega (arith, c.loop.invariant.count);
  end = omega (arith, c.loop.invariant.end);
  front = read_more c.args.from.now (take 64 c.args.from.now) c.loop.self c.push.new.self c.get_ref.result c.loop.end (c.loop.end + 104 - c.loop.end) (omega arith) c.loop.invariant.front c.get_ref.ensures.bytes c.push.ensures;
}
