use Rattle.std.proofs.Common.{arith, ◌+◌}
use Rattle.ak_memhost.specs.State.{told_in}
use Rattle.ak_memhost.proofs.Counted.{count_more, told-push, told_prefix}
use Rattle.ak_memhost.proofs.host.telling.count_told.Goals as goal

pub overflow_add-count : goal.overflow_add-count
overflow_add-count c =
    let more = count_more (told_in c.args.port) (told-push c.args.port) c.args.calls.now c.loop-call.call-index c.call-item.result (omega arith) c.call-item.is in
    omega (arith, more, told_prefix c.args.port (c.loop-call.call-index + 1) c.args.calls.now, c.told_by-count.ensures, c.loop-call.invariant, c.requires)

pub loop-call-preserved : goal.loop-call-preserved
loop-call-preserved c =
    let more = count_more (told_in c.args.port) (told-push c.args.port) c.args.calls.now c.loop-call.call-index c.call-item.result (omega arith) c.call-item.is in
    omega (arith, more, c.told_by-count.ensures, c.loop-call.invariant)
