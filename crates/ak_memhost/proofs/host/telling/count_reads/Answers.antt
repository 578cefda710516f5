use Rattle.std.proofs.Common.{arith}
use Rattle.ak_memhost.specs.State.{reads_in}
use Rattle.ak_memhost.proofs.Counted.{count_more}
use Rattle.ak_memhost.proofs.Recorded.{reads-push}
use Rattle.ak_memhost.proofs.host.telling.count_reads.Goals as goal

pub loop-call-preserved : goal.loop-call-preserved
loop-call-preserved c =
    let more = count_more reads_in reads-push c.args.calls.now c.loop-call.call-index c.call-item.result (omega arith) c.call-item.is in
    record {
      count_is = omega (arith, more, c.read_by-count.ensures.is, c.loop-call.invariant.count_is);
      few = omega (arith, c.read_by-count.ensures.few, c.loop-call.invariant.few);
    }
