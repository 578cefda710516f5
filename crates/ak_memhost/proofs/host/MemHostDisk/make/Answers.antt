use Rattle.std.proofs.Common.{◌≡◌, ◌<◌, ◌≤◌, ◌^◌, ◌∙◌, length, refl, replicate, sym, ap, subst, arith}
use Rattle.ak_host.specs.Files.{with_item}
use Rattle.ak_memhost.specs.Drive.{Drive, AllFit, zero_cell, sizes, contents}
use Rattle.ak_memhost.specs.Laws.{zero_is_block}
use Rattle.ak_memhost.specs.Record.{Current, start}
use Rattle.ak_memhost.specs.declared.call.Call.TheVariants.{Make}
use Rattle.ak_memhost.proofs.Images.{sizes-with_file, contents-with_file, AllFit-with_item, length-with_item}
use Rattle.ak_memhost.proofs.Recorded.{drive_is, make_passes, make_stable, failed_make_passes, failure_is, failure_reads, failure_writes, failure_blocks, disk_current, reads_is, writes_is}
use Rattle.ak_memhost.proofs.host.MemHostDisk.make.Goals as goal

pub invariant_of-self-clause-current : goal.invariant_of-self-clause-current
invariant_of-self-clause-current c =
    let host = c.args.self.now in
    subst (Current host.turns.items host.files.items host.next host.heard) (sym (failure_is host.turns.items (start host.base.items) host.calls.items _ 0 0 0 0 _ _ c.record_failure.ensures.calls)) host.current

pub invariant_of-self-clause-written : goal.invariant_of-self-clause-written
invariant_of-self-clause-written c = failure_blocks _ _ _ _ c.record_failure.ensures.calls c.args.self.now.written

pub returns-then-is_to_fail-clause-reads : goal.returns-then-is_to_fail-clause-reads
returns-then-is_to_fail-clause-reads c = failure_reads _ _ _ _ c.record_failure.ensures.calls

pub returns-then-is_to_fail-clause-writes : goal.returns-then-is_to_fail-clause-writes
returns-then-is_to_fail-clause-writes c = failure_writes _ _ _ _ c.record_failure.ensures.calls

pub returns-then-is_to_fail-clause-moments : goal.returns-then-is_to_fail-clause-moments
returns-then-is_to_fail-clause-moments c = let host = c.args.self.now in failed_make_passes host.turns.items (start host.base.items) host.calls.items _ _ _ _ _ c.args.file c.args.blocks _ _ c.record_failure.ensures.calls

pub invariant_of-self-in-Ok : goal.invariant_of-self-in-Ok
invariant_of-self-in-Ok c =
    let host = c.args.self.now in
    let zeros = replicate c.args.blocks zero_cell in
    let files_are : c.put_file.new.files.items ≡ with_item host.files.items c.args.file zeros =
    c.in-Ok.ensures.ok ∙ ap (λ new. with_item host.files.items c.args.file new) c.in_ok-new.ensures.ok in
    let sizes_are : sizes c.put_file.new.files.items ≡ with_item (sizes host.files.items) c.args.file c.args.blocks = ap sizes files_are ∙ sizes-with_file host.files.items c.args.file c.args.blocks in
    let next : c.args.file ≤ length (sizes host.files.items) = omega (arith, c.requires.next, ap (λ (drive : Drive). length (sizes drive)) host.current.files_are) in
    let few : length (with_item (sizes host.files.items) c.args.file c.args.blocks) < 2 ^ 32 = omega (arith, length-with_item (sizes host.files.items) c.args.file c.args.blocks next, host.few_files, c.requires.room) in
    record {
      current = disk_current host.turns.items (start host.base.items) host.calls.items _ 0 0 0 0 (Make c.args.file c.args.blocks) host.files.items _ host.next host.heard c.in_ok-record.ensures.ok
          (files_are ∙ ap (λ drive. with_item drive c.args.file zeros) host.current.files_are) refl host.current;
      base_blocks = host.base_blocks;
      written = c.record.ensures.written zero_is_block host.written;
      few_calls = c.record.ensures.few host.few_calls;
      valid = host.valid;
      few_files = subst (λ ns. length ns < 2 ^ 32) (sym sizes_are) few;
      few_blocks = subst AllFit (sym sizes_are) (AllFit-with_item (sizes host.files.items) c.args.file c.args.blocks host.few_blocks c.ranges.blocks.fits);
    }

pub returns-in-Ok-clause-sizes : goal.returns-in-Ok-clause-sizes
returns-in-Ok-clause-sizes c = let host = c.args.self.now in
    ap sizes (drive_is host.turns.items (start host.base.items) host.calls.items _ (Make c.args.file c.args.blocks) c.in_ok-record.ensures.ok) ∙ sizes-with_file _ c.args.file c.args.blocks

pub returns-in-Ok-clause-files : goal.returns-in-Ok-clause-files
returns-in-Ok-clause-files c = let host = c.args.self.now in
    ap contents (drive_is host.turns.items (start host.base.items) host.calls.items _ (Make c.args.file c.args.blocks) c.in_ok-record.ensures.ok) ∙ contents-with_file _ c.args.file c.args.blocks

pub returns-in-Ok-clause-reads : goal.returns-in-Ok-clause-reads
returns-in-Ok-clause-reads c = omega (arith, reads_is _ _ (Make c.args.file c.args.blocks) c.in_ok-record.ensures.ok)

pub returns-in-Ok-clause-writes : goal.returns-in-Ok-clause-writes
returns-in-Ok-clause-writes c = omega (arith, writes_is _ _ (Make c.args.file c.args.blocks) c.in_ok-record.ensures.ok)

pub returns-in-Ok-clause-stable : goal.returns-in-Ok-clause-stable
returns-in-Ok-clause-stable c = let host = c.args.self.now in
    make_stable host.turns.items (start host.base.items) host.calls.items _ host.disk_faults host.port_faults c.record.new.faults host.port_faults c.args.file c.args.blocks c.in_ok-record.ensures.ok

pub returns-in-Ok-clause-moments : goal.returns-in-Ok-clause-moments
returns-in-Ok-clause-moments c = let host = c.args.self.now in
    make_passes host.turns.items (start host.base.items) host.calls.items _ _ _ _ _ c.args.file c.args.blocks c.in_ok-record.ensures.ok
