use Rattle.std.proofs.Common.{◌<◌, ◌∙◌, length, sym, subst, ap, arith, slice_index_or}
use Rattle.ak_host.specs.Files.{block_at}
use Rattle.ak_memhost.specs.Drive.{Drive, sizes, contents}
use Rattle.ak_memhost.specs.Laws.{zero_is_block}
use Rattle.ak_memhost.specs.Record.{Stage, Current, start}
use Rattle.ak_memhost.specs.declared.call.Call.TheVariants.{Read}
use Rattle.ak_memhost.proofs.Images.{length-sizes, size_read, cells_read, cell_read}
use Rattle.ak_memhost.proofs.Recorded.{drive_is, read_passes, failure_passes, failure_is, read_or_none_is, failure_reads, failure_writes, failure_blocks, reads_is, writes_is}
use Rattle.ak_memhost.proofs.Outcomes.{ok_or_err}
use Rattle.ak_memhost.proofs.host.MemHostDisk.read.Goals as goal

pub invariant_of-self-clause-current : goal.invariant_of-self-clause-current
invariant_of-self-clause-current c =
    let host = c.args.self.now in
    subst (Current host.turns.items host.files.items host.next host.heard) (sym (failure_is host.turns.items (start host.base.items) host.calls.items _ 0 0 0 0 _ _ c.record_failure.ensures.calls)) host.current

pub invariant_of-self-clause-written : goal.invariant_of-self-clause-written
invariant_of-self-clause-written c = failure_blocks _ _ _ _ c.record_failure.ensures.calls c.args.self.now.written

pub returns-then-is_to_fail-clause-sizes : goal.returns-then-is_to_fail-clause-sizes
returns-then-is_to_fail-clause-sizes c = let host = c.args.self.now in ap (λ (s : Stage). sizes s.drive) (failure_is host.turns.items (start host.base.items) host.calls.items _ 0 0 0 0 _ _ c.record_failure.ensures.calls)

pub returns-then-is_to_fail-clause-files : goal.returns-then-is_to_fail-clause-files
returns-then-is_to_fail-clause-files c = let host = c.args.self.now in ap (λ (s : Stage). contents s.drive) (failure_is host.turns.items (start host.base.items) host.calls.items _ 0 0 0 0 _ _ c.record_failure.ensures.calls)

pub returns-then-is_to_fail-clause-reads : goal.returns-then-is_to_fail-clause-reads
returns-then-is_to_fail-clause-reads c = let same = failure_reads _ _ _ _ c.record_failure.ensures.calls in record { later = omega (arith, same); at_most = omega (arith, same); ok = tt }

pub returns-then-is_to_fail-clause-writes : goal.returns-then-is_to_fail-clause-writes
returns-then-is_to_fail-clause-writes c = failure_writes _ _ _ _ c.record_failure.ensures.calls

pub returns-then-is_to_fail-clause-moments : goal.returns-then-is_to_fail-clause-moments
returns-then-is_to_fail-clause-moments c = let host = c.args.self.now in failure_passes host.turns.items (start host.base.items) host.calls.items _ _ _ _ _ _ _ c.record_failure.ensures.calls

pub invariant_of-self-2-clause-current : goal.invariant_of-self-2-clause-current
invariant_of-self-2-clause-current c =
    let host = c.args.self.now in
    subst (Current host.turns.items host.files.items host.next host.heard)
    (sym (read_or_none_is host.turns.items (start host.base.items) host.calls.items _ 0 0 0 0 (ok_or_err c.record.result c.record.ensures.ok c.record.ensures.err))) host.current

pub invariant_of-self-2-clause-written : goal.invariant_of-self-2-clause-written
invariant_of-self-2-clause-written c = c.record.ensures.written zero_is_block c.args.self.now.written

pub index-requires : goal.index-requires
index-requires c = omega (arith, c.requires.file, ap (λ (drive : Drive). length (sizes drive)) c.args.self.now.current.files_are, length-sizes c.args.self.now.files.items)

pub get-requires : goal.get-requires
get-requires c =
    let host = c.args.self.now in
    let there : c.args.file < length host.files.items = omega (arith, c.requires.file, ap (λ (drive : Drive). length (sizes drive)) host.current.files_are, length-sizes host.files.items) in
    omega (arith, c.requires.index, size_read host.files.items c.args.file _ c.index.ensures there, ap (λ drive. slice_index_or (sizes drive) c.args.file 0) host.current.files_are)

pub returns-clause-block : goal.returns-clause-block
returns-clause-block c =
    let host = c.args.self.now in
    let there : c.args.file < length host.files.items = omega (arith, c.requires.file, ap (λ (drive : Drive). length (sizes drive)) host.current.files_are, length-sizes host.files.items) in
    let inside : c.args.index < length c.index.result.now =
    omega (arith, c.requires.index, size_read host.files.items c.args.file _ c.index.ensures there, ap (λ drive. slice_index_or (sizes drive) c.args.file 0) host.current.files_are) in
    cell_read host.files.items c.args.file c.args.index c.index.result.now c.get.result (cells_read host.files.items c.args.file _ c.index.ensures there) inside c.get.ensures
    ∙ ap (λ drive. block_at (contents drive) c.args.file c.args.index) host.current.files_are

pub returns-clause-sizes : goal.returns-clause-sizes
returns-clause-sizes c = let host = c.args.self.now in ap sizes (drive_is host.turns.items (start host.base.items) host.calls.items _ Read c.in_ok-record.ensures.ok)

pub returns-clause-files : goal.returns-clause-files
returns-clause-files c = let host = c.args.self.now in ap contents (drive_is host.turns.items (start host.base.items) host.calls.items _ Read c.in_ok-record.ensures.ok)

pub returns-clause-reads : goal.returns-clause-reads
returns-clause-reads c = let is = reads_is _ _ Read c.in_ok-record.ensures.ok in record { later = omega (arith, is); at_most = omega (arith, is); ok = omega (arith, is) }

pub returns-clause-writes : goal.returns-clause-writes
returns-clause-writes c = omega (arith, writes_is _ _ Read c.in_ok-record.ensures.ok)

pub returns-clause-moments : goal.returns-clause-moments
returns-clause-moments c = let host = c.args.self.now in read_passes host.turns.items (start host.base.items) host.calls.items _ _ _ _ _ c.in_ok-record.ensures.ok
