use Rattle.std.proofs.Common.{◌≡◌, ◌++◌, ◌∷◌, [], List, ℕ, ◌∙◌, sym, ap, subst, arith}
use Rattle.ak_memhost.specs.Drive.{contents}
use Rattle.ak_memhost.specs.Record.{Stage, Current, start}
use Rattle.ak_memhost.specs.declared.call.Call.TheVariants.{Reply}
use Rattle.ak_memhost.specs.Laws.{zero_is_block}
use Rattle.ak_memhost.proofs.Recorded.{reply_current, after_is, reply_passes, reply_mark, port_failure_passes, failure_mark, failure_is, failure_reads, failure_writes, failure_blocks, reads_is, writes_is}
use Rattle.ak_memhost.proofs.host.MemHostPorts.reply.Goals as goal

-- a reply that was to fail

pub invariant_of-self-clause-current : goal.invariant_of-self-clause-current
invariant_of-self-clause-current c =
    let host = c.args.self.now in
    subst (Current host.turns.items host.files.items host.next host.heard) (sym (failure_is host.turns.items (start host.base.items) host.calls.items _ 0 0 0 0 _ _ c.record_failure.ensures.calls)) host.current

pub invariant_of-self-clause-written : goal.invariant_of-self-clause-written
invariant_of-self-clause-written c = failure_blocks _ _ _ _ c.record_failure.ensures.calls c.args.self.now.written

pub returns-then-is_to_fail-clause-told_err : goal.returns-then-is_to_fail-clause-told_err
returns-then-is_to_fail-clause-told_err c = let host = c.args.self.now in
    failure_mark host.turns.items (start host.base.items) host.calls.items _ host.disk_faults host.port_faults host.disk_faults c.record_failure.new.faults _ _ c.record_failure.ensures.calls

pub returns-then-is_to_fail-clause-disk : goal.returns-then-is_to_fail-clause-disk
returns-then-is_to_fail-clause-disk c =
    let host = c.args.self.now in
    record {
      files = ap (λ (s : Stage). contents s.drive) (failure_is host.turns.items (start host.base.items) host.calls.items _ 0 0 0 0 _ _ c.record_failure.ensures.calls);
      reads = failure_reads _ _ _ _ c.record_failure.ensures.calls;
      writes = failure_writes _ _ _ _ c.record_failure.ensures.calls;
    }

pub returns-then-is_to_fail-clause-moments : goal.returns-then-is_to_fail-clause-moments
returns-then-is_to_fail-clause-moments c = let host = c.args.self.now in
    port_failure_passes host.turns.items (start host.base.items) host.calls.items _ _ _ _ _ _ _ c.record_failure.ensures.calls

-- one that is recorded

pub invariant_of-self-in-Ok : goal.invariant_of-self-in-Ok
invariant_of-self-in-Ok c =
    let host = c.args.self.now in
    let is : c.record.new.calls.items ≡ host.calls.items ++ Reply c.args.port c.args.bytes.now ∷ [] =
    c.in_ok-record.ensures.ok ∙ ap (λ (bytes : List ℕ). host.calls.items ++ Reply c.args.port bytes ∷ []) c.in_ok-copy.ensures.ok in
    record {
      current = reply_current host.turns.items (start host.base.items) host.calls.items _ 0 0 0 0 host.files.items host.next c.args.port c.args.bytes.now host.heard _ is c.in-Ok.ensures.ok host.current;
      base_blocks = host.base_blocks;
      written = c.record.ensures.written zero_is_block host.written;
      few_calls = c.record.ensures.few host.few_calls;
      valid = host.valid;
      few_files = host.few_files;
      few_blocks = host.few_blocks;
    }

pub returns-in-Ok-clause-told : goal.returns-in-Ok-clause-told
returns-in-Ok-clause-told c =
    let host = c.args.self.now in
    let is = c.in_ok-record.ensures.ok ∙ ap (λ (bytes : List ℕ). host.calls.items ++ Reply c.args.port bytes ∷ []) c.in_ok-copy.ensures.ok in
    reply_mark host.turns.items (start host.base.items) host.calls.items _ host.disk_faults host.port_faults host.disk_faults c.record.new.faults c.args.port c.args.bytes.now is

pub returns-in-Ok-clause-disk : goal.returns-in-Ok-clause-disk
returns-in-Ok-clause-disk c =
    let host = c.args.self.now in
    let is = c.in_ok-record.ensures.ok in
    record {
      files = ap (λ (s : Stage). contents s.drive) (after_is host.turns.items (start host.base.items) host.calls.items _ (Reply c.args.port c.in_ok-copy.copy) is);
      reads = omega (arith, reads_is _ _ (Reply c.args.port c.in_ok-copy.copy) is);
      writes = omega (arith, writes_is _ _ (Reply c.args.port c.in_ok-copy.copy) is);
    }

pub returns-in-Ok-clause-moments : goal.returns-in-Ok-clause-moments
returns-in-Ok-clause-moments c =
    let host = c.args.self.now in
    let is = c.in_ok-record.ensures.ok ∙ ap (λ (bytes : List ℕ). host.calls.items ++ Reply c.args.port bytes ∷ []) c.in_ok-copy.ensures.ok in
    reply_passes host.turns.items (start host.base.items) host.calls.items _ host.disk_faults host.port_faults host.disk_faults c.record.new.faults c.args.port c.args.bytes.now is
