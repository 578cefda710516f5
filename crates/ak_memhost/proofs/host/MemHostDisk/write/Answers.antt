use Rattle.std.proofs.Common.{◌≡◌, ◌++◌, ◌∷◌, [], List, ℕ, inr, refl, ◌<◌, ◌^◌, ◌∙◌, length, sym, ap, subst, arith, slice_index_or, false}
use Rattle.ak_host.specs.Files.{IsBlock}
use Rattle.ak_memhost.specs.declared.drive.Cell.{Cell}
use Rattle.ak_memhost.specs.Drive.{Drive, AllFit, sizes, contents, cells_at, with_cell}
use Rattle.ak_memhost.specs.Record.{start}
use Rattle.ak_memhost.specs.declared.call.Call.TheVariants.{Write}
use Rattle.ak_memhost.proofs.Images.{length-sizes, sizes_at, sizes-with_cell, contents-with_cell}
use Rattle.ak_memhost.proofs.Recorded.{drive_is, disk_current, write_passes, reads_is, writes_is}
use Rattle.ak_memhost.proofs.Outcomes.{on_ok, on_err}
use Rattle.ak_memhost.proofs.host.MemHostDisk.write.Goals as goal

pub invariant_of-self-2 : goal.invariant_of-self-2
invariant_of-self-2 c =
    let host = c.args.self.now in
    let cell : Cell = record { block = c.args.from.now; synced = false } in
    let is : c.record.new.calls.items ≡ host.calls.items ++ Write c.args.file c.args.index c.args.from.now ∷ [] =
    c.in_ok-record.ensures.ok ∙ ap (λ (block : List ℕ). host.calls.items ++ Write c.args.file c.args.index block ∷ []) c.in_ok-block.ensures.ok in
    let same : sizes c.put_cell.new.files.items ≡ sizes host.files.items = ap sizes c.put_cell.ensures ∙ sizes-with_cell host.files.items c.args.file c.args.index cell in
    record {
      current = disk_current host.turns.items (start host.base.items) host.calls.items _ 0 0 0 0 (Write c.args.file c.args.index c.args.from.now) host.files.items _ host.next host.heard is
          (c.put_cell.ensures ∙ ap (λ drive. with_cell drive c.args.file c.args.index cell) host.current.files_are) refl host.current;
      base_blocks = host.base_blocks;
      written = c.record.ensures.written (subst IsBlock (sym c.in_ok-block.ensures.ok) c.saved_block.ensures.block) host.written;
      few_calls = c.record.ensures.few host.few_calls;
      valid = host.valid;
      few_files = subst (λ ns. length ns < 2 ^ 32) (sym same) host.few_files;
      few_blocks = subst AllFit (sym same) host.few_blocks;
    }

pub returns-clause-sizes : goal.returns-clause-sizes
returns-clause-sizes c =
    let host = c.args.self.now in
    let is = c.in_ok-record.ensures.ok ∙ ap (λ (block : List ℕ). host.calls.items ++ Write c.args.file c.args.index block ∷ []) c.in_ok-block.ensures.ok in
    ap sizes (drive_is host.turns.items (start host.base.items) host.calls.items _ (Write c.args.file c.args.index c.args.from.now) is)
    ∙ sizes-with_cell _ c.args.file c.args.index (record { block = c.args.from.now; synced = false })

pub returns-clause-files : goal.returns-clause-files
returns-clause-files c =
    let host = c.args.self.now in
    let is = c.in_ok-record.ensures.ok ∙ ap (λ (block : List ℕ). host.calls.items ++ Write c.args.file c.args.index block ∷ []) c.in_ok-block.ensures.ok in
    on_ok c.fault_if.result (
    ap contents (drive_is host.turns.items (start host.base.items) host.calls.items _ (Write c.args.file c.args.index c.args.from.now) is)
    ∙ contents-with_cell _ c.args.file c.args.index (record { block = c.args.from.now; synced = false }))

pub returns-clause-files_err : goal.returns-clause-files_err
returns-clause-files_err c =
    let host = c.args.self.now in
    let is = c.in_ok-record.ensures.ok ∙ ap (λ (block : List ℕ). host.calls.items ++ Write c.args.file c.args.index block ∷ []) c.in_ok-block.ensures.ok in
    on_err c.fault_if.result (inr (record {
      block = c.args.from.now;
      any_bytes = c.saved_block.ensures.block;
      is = ap contents (drive_is host.turns.items (start host.base.items) host.calls.items _ (Write c.args.file c.args.index c.args.from.now) is)
          ∙ contents-with_cell _ c.args.file c.args.index (record { block = c.args.from.now; synced = false });
    }))

pub returns-clause-written : goal.returns-clause-written
returns-clause-written c =
    let host = c.args.self.now in
    let is = c.in_ok-record.ensures.ok ∙ ap (λ (block : List ℕ). host.calls.items ++ Write c.args.file c.args.index block ∷ []) c.in_ok-block.ensures.ok in
    λ numbered.
    ap contents (drive_is host.turns.items (start host.base.items) host.calls.items _ (Write c.args.file c.args.index c.args.from.now) is)
    ∙ contents-with_cell _ c.args.file c.args.index (record { block = c.args.from.now; synced = false })

pub returns-clause-reads : goal.returns-clause-reads
returns-clause-reads c =
    omega (arith, reads_is _ _ (Write c.args.file c.args.index c.in_ok-block.block) c.in_ok-record.ensures.ok)

pub returns-clause-writes : goal.returns-clause-writes
returns-clause-writes c =
    let is = writes_is _ _ (Write c.args.file c.args.index c.in_ok-block.block) c.in_ok-record.ensures.ok in
    record { later = omega (arith, is); at_most = omega (arith, is); ok = on_ok c.fault_if.result (omega (arith, is)) }

pub returns-clause-moments : goal.returns-clause-moments
returns-clause-moments c =
    let host = c.args.self.now in
    let is = c.in_ok-record.ensures.ok ∙ ap (λ (block : List ℕ). host.calls.items ++ Write c.args.file c.args.index block ∷ []) c.in_ok-block.ensures.ok in
    let there : c.args.file < length host.files.items = omega (arith, c.requires.file, ap (λ (drive : Drive). length (sizes drive)) host.current.files_are, length-sizes host.files.items) in
    let inside : c.args.index < length (cells_at host.files.items c.args.file) =
    omega (arith, c.requires.index, sizes_at host.files.items c.args.file, ap (λ drive. slice_index_or (sizes drive) c.args.file 0) host.current.files_are) in
    write_passes host.turns.items (start host.base.items) host.calls.items _ _ _ _ _ c.args.file c.args.index c.args.from.now is c.saved_block.ensures.block
    (subst (λ drive. c.args.file < length drive) host.current.files_are there)
    (subst (λ drive. c.args.index < length (cells_at drive c.args.file)) host.current.files_are inside)
