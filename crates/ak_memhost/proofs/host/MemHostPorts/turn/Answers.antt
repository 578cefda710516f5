use Rattle.std.proofs.Common.{◌≡◌, ◌+◌, ◌∙◌, length, min, slice_get, sym, ap, subst, arith}
use Rattle.ak_host.specs.Marks.{after_turn}
use Rattle.ak_host.specs.Moments.{mark_now}
use Rattle.ak_memhost.specs.State.{state_of}
use Rattle.ak_memhost.specs.Drive.{contents}
use Rattle.ak_memhost.specs.Record.{Stage, Current, start}
use Rattle.ak_memhost.specs.Turns.{turn_or_done}
use Rattle.ak_memhost.specs.Laws.{zero_is_block}
use Rattle.ak_memhost.specs.declared.call.Call.TheVariants.{Turn}
use Rattle.ak_memhost.proofs.Recorded.{turn_current, turn_at_next, after_is, turn_passes, turn_mark, port_failure_passes, failure_mark, failure_is, failure_reads, failure_writes, failure_blocks, reads_is, writes_is}
use Rattle.ak_memhost.proofs.host.MemHostPorts.turn.Goals as goal

-- a turn that was to fail

pub invariant_of-self-clause-current : goal.invariant_of-self-clause-current
invariant_of-self-clause-current c =
    let host = c.args.self.now in
    subst (Current host.turns.items host.files.items host.next host.heard) (sym (failure_is host.turns.items (start host.base.items) host.calls.items _ 0 0 0 0 _ _ c.record_failure.ensures.calls)) host.current

pub invariant_of-self-clause-written : goal.invariant_of-self-clause-written
invariant_of-self-clause-written c = failure_blocks _ _ _ _ c.record_failure.ensures.calls c.args.self.now.written

pub returns-then-is_to_fail-clause-given_err : goal.returns-then-is_to_fail-clause-given_err
returns-then-is_to_fail-clause-given_err c = let host = c.args.self.now in
    failure_mark host.turns.items (start host.base.items) host.calls.items _ host.disk_faults host.port_faults host.disk_faults c.record_failure.new.faults _ _ c.record_failure.ensures.calls

pub returns-then-is_to_fail-clause-disk : goal.returns-then-is_to_fail-clause-disk
returns-then-is_to_fail-clause-disk c =
    let host = c.args.self.now in
    record {
      files = ap (λ (s : Stage). contents s.drive) (failure_is host.turns.items (start host.base.items) host.calls.items _ 0 0 0 0 _ _ c.record_failure.ensures.calls);
      reads = failure_reads _ _ _ _ c.record_failure.ensures.calls;
      writes = failure_writes _ _ _ _ c.record_failure.ensures.calls;
    }

pub returns-then-is_to_fail-clause-moments : goal.returns-then-is_to_fail-clause-moments
returns-then-is_to_fail-clause-moments c = let host = c.args.self.now in
    port_failure_passes host.turns.items (start host.base.items) host.calls.items _ _ _ _ _ _ _ c.record_failure.ensures.calls

-- one that is given

pub invariant_of-self-2-clause-current : goal.invariant_of-self-2-clause-current
invariant_of-self-2-clause-current c =
    let host = c.args.self.now in
    let len_is : c.len-2.result ≡ length host.turns.items = omega (arith, c.len-2.ensures) in
    turn_current host.turns.items (start host.base.items) host.calls.items _ 0 0 0 0 host.files.items host.next _ host.heard c.in_ok-record.ensures.ok (c.next_after-self.ensures ∙ ap (λ n. min (host.next + 1) n) len_is) host.current

pub invariant_of-self-2-clause-written : goal.invariant_of-self-2-clause-written
invariant_of-self-2-clause-written c = c.record.ensures.written zero_is_block c.args.self.now.written

pub returns-clause-given : goal.returns-clause-given
returns-clause-given c = let host = c.args.self.now in
    turn_mark host.turns.items (start host.base.items) host.calls.items _ host.disk_faults host.port_faults host.disk_faults c.record.new.faults c.in_ok-record.ensures.ok
    ∙ ap (λ turn. after_turn (mark_now (state_of host.turns.items (start host.base.items) host.calls.items host.disk_faults host.port_faults)) (turn_or_done turn))
    (sym (turn_at_next host.turns.items (start host.base.items) host.calls.items c.record.new.calls.items 0 0 0 0 host.files.items host.next host.heard host.current))
    ∙ ap (λ turn. after_turn (mark_now (state_of host.turns.items (start host.base.items) host.calls.items host.disk_faults host.port_faults)) turn) (sym (c.give-turn.ensures.given ∙ ap (λ turns. turn_or_done (slice_get turns host.next)) c.deref-2.ensures.value))

pub returns-clause-next : goal.returns-clause-next
returns-clause-next c =
    let host = c.args.self.now in
    c.give-turn.ensures.given ∙ ap (λ turns. turn_or_done (slice_get turns host.next)) c.deref-2.ensures.value
    ∙ ap turn_or_done (turn_at_next host.turns.items (start host.base.items) host.calls.items c.record.new.calls.items 0 0 0 0 host.files.items host.next host.heard host.current)

pub returns-clause-disk : goal.returns-clause-disk
returns-clause-disk c =
    let host = c.args.self.now in
    let is = c.in_ok-record.ensures.ok in
    record {
      files = ap (λ (s : Stage). contents s.drive) (after_is host.turns.items (start host.base.items) host.calls.items _ Turn is);
      reads = omega (arith, reads_is _ _ Turn is);
      writes = omega (arith, writes_is _ _ Turn is);
    }

pub returns-clause-moments : goal.returns-clause-moments
returns-clause-moments c = let host = c.args.self.now in
    turn_passes host.turns.items (start host.base.items) host.calls.items _ host.disk_faults host.port_faults host.disk_faults c.record.new.faults c.in_ok-record.ensures.ok
