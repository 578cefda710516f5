use Rattle.std.proofs.Common.{◌≡◌, ◌<◌, ◌^◌, length, refl, sym, ◌∙◌, ap, subst, arith}
use Rattle.ak_memhost.specs.Drive.{AllFit, sizes, contents, with_settled}
use Rattle.ak_memhost.specs.Laws.{zero_is_block}
use Rattle.ak_memhost.specs.Record.{Stage, Current, start}
use Rattle.ak_memhost.specs.declared.call.Call.TheVariants.{Sync}
use Rattle.ak_memhost.proofs.Images.{sizes-with_settled, contents-with_settled}
use Rattle.ak_memhost.proofs.Recorded.{drive_is, sync_passes, sync_stable, failure_passes, failure_is, failure_reads, failure_writes, failure_blocks, disk_current, reads_is, writes_is}
use Rattle.ak_memhost.proofs.host.MemHostDisk.sync.Goals as goal

-- a sync that was to fail

pub invariant_of-self-clause-current : goal.invariant_of-self-clause-current
invariant_of-self-clause-current c =
    let host = c.args.self.now in
    subst (Current host.turns.items host.files.items host.next host.heard) (sym (failure_is host.turns.items (start host.base.items) host.calls.items _ 0 0 0 0 _ _ c.record_failure.ensures.calls)) host.current

pub invariant_of-self-clause-written : goal.invariant_of-self-clause-written
invariant_of-self-clause-written c = failure_blocks _ _ _ _ c.record_failure.ensures.calls c.args.self.now.written

pub returns-then-is_to_fail-clause-disk : goal.returns-then-is_to_fail-clause-disk
returns-then-is_to_fail-clause-disk c =
    let host = c.args.self.now in
    record {
      files = ap (λ (s : Stage). contents s.drive) (failure_is host.turns.items (start host.base.items) host.calls.items _ 0 0 0 0 _ _ c.record_failure.ensures.calls);
      reads = failure_reads _ _ _ _ c.record_failure.ensures.calls;
      writes = failure_writes _ _ _ _ c.record_failure.ensures.calls;
    }

pub returns-then-is_to_fail-clause-moments : goal.returns-then-is_to_fail-clause-moments
returns-then-is_to_fail-clause-moments c = let host = c.args.self.now in failure_passes host.turns.items (start host.base.items) host.calls.items _ _ _ _ _ _ _ c.record_failure.ensures.calls

-- a sync that is made

pub invariant_of-self-2 : goal.invariant_of-self-2
invariant_of-self-2 c =
    let host = c.args.self.now in
    let same : sizes c.settle_file.new.files.items ≡ sizes host.files.items = ap sizes c.settle_file.ensures ∙ sizes-with_settled host.files.items c.args.file in
    record {
      current = disk_current host.turns.items (start host.base.items) host.calls.items _ 0 0 0 0 (Sync c.args.file) host.files.items _ host.next host.heard c.in_ok-record.ensures.ok
          (c.settle_file.ensures ∙ ap (λ drive. with_settled drive c.args.file) host.current.files_are) refl host.current;
      base_blocks = host.base_blocks;
      written = c.record.ensures.written zero_is_block host.written;
      few_calls = c.record.ensures.few host.few_calls;
      valid = host.valid;
      few_files = subst (λ ns. length ns < 2 ^ 32) (sym same) host.few_files;
      few_blocks = subst AllFit (sym same) host.few_blocks;
    }

pub returns-clause-sizes : goal.returns-clause-sizes
returns-clause-sizes c = let host = c.args.self.now in
    ap sizes (drive_is host.turns.items (start host.base.items) host.calls.items _ (Sync c.args.file) c.in_ok-record.ensures.ok) ∙ sizes-with_settled _ c.args.file

pub returns-clause-disk : goal.returns-clause-disk
returns-clause-disk c =
    let host = c.args.self.now in
    let is = c.in_ok-record.ensures.ok in
    record {
      files = ap contents (drive_is host.turns.items (start host.base.items) host.calls.items _ (Sync c.args.file) is) ∙ contents-with_settled _ c.args.file;
      reads = omega (arith, reads_is _ _ (Sync c.args.file) is);
      writes = omega (arith, writes_is _ _ (Sync c.args.file) is);
    }

pub returns-clause-stable : goal.returns-clause-stable
returns-clause-stable c = let host = c.args.self.now in sync_stable host.turns.items (start host.base.items) host.calls.items _ host.disk_faults host.port_faults c.record.new.faults host.port_faults c.args.file c.in_ok-record.ensures.ok

pub returns-clause-moments : goal.returns-clause-moments
returns-clause-moments c = let host = c.args.self.now in sync_passes host.turns.items (start host.base.items) host.calls.items _ _ _ _ _ c.args.file c.in_ok-record.ensures.ok
