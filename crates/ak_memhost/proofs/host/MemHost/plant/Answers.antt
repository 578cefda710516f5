use Rattle.std.proofs.Common.{◌≡◌, ◌↔◌, ◌<◌, ◌^◌, ◌∙◌, true, length, sym, ap, subst}
use Rattle.ak_host.specs.Files.{AreBlocks}
use Rattle.ak_host.specs.Moments.{LeavesNow}
use Rattle.ak_memhost.specs.Drive.{Drive, AllFit, contents, sizes, with_cell}
use Rattle.ak_memhost.specs.Fresh.{IsPlanted, IsSameBut}
use Rattle.ak_memhost.specs.Host.{host_state}
use Rattle.ak_memhost.specs.Record.{start, after, Current}
use Rattle.ak_memhost.specs.Laws.{written_blocks}
use Rattle.ak_memhost.specs.State.{state_of}
use Rattle.ak_memhost.specs.declared.drive.Cell.{Cell}
use Rattle.ak_memhost.proofs.Images.{sizes-with_cell}
use Rattle.ak_memhost.proofs.Planted.{planted_current, planted_files, planted_sizes, planted_same, planted_left}
use Rattle.ak_memhost.proofs.host.MemHost.plant.Goals as goal

pub invariant_of-self : goal.invariant_of-self
invariant_of-self c =
    let host = c.args.self.now in
    let cell : Cell = record { block = c.args.block.now; synced = true } in
    let base_is : c.put_cell.new.files.items ≡ with_cell host.base.items c.args.file c.args.index cell =
    c.put_cell.ensures ∙ ap (λ b. with_cell host.base.items c.args.file c.args.index (record { block = b; synced = true })) c.block_of.ensures.same in
    let files_is : c.put_cell-2.new.files.items ≡ with_cell host.files.items c.args.file c.args.index cell =
    c.put_cell-2.ensures ∙ ap (λ b. with_cell host.files.items c.args.file c.args.index (record { block = b; synced = true })) c.block_of.ensures.same in
    let same : sizes c.put_cell-2.new.files.items ≡ sizes host.files.items = ap sizes files_is ∙ sizes-with_cell host.files.items c.args.file c.args.index cell in
    record {
      current = subst (λ (b : Drive). Current host.turns.items c.put_cell-2.new.files.items host.next host.heard (after host.turns.items (start b) host.calls.items)) (sym base_is)
          (subst (λ (f : Drive). Current host.turns.items f host.next host.heard (after host.turns.items (start (with_cell host.base.items c.args.file c.args.index cell)) host.calls.items)) (sym files_is)
          (planted_current host.turns.items host.base.items c.args.file c.args.index c.args.block.now 0 0 host.files.items host.calls.items host.next host.heard c.requires.none host.current));
      base_blocks = subst (λ (b : Drive). AreBlocks (contents b)) (sym base_is) (written_blocks host.base.items c.args.file c.args.index cell c.block_of.ensures.block host.base_blocks);
      written = host.written;
      few_calls = host.few_calls;
      valid = host.valid;
      few_files = subst (λ ns. length ns < 2 ^ 32) (sym same) host.few_files;
      few_blocks = subst AllFit (sym same) host.few_blocks;
    }

pub returns-clause-sizes : goal.returns-clause-sizes
returns-clause-sizes c =
    let host = c.args.self.now in
    let base_is = c.put_cell.ensures ∙ ap (λ b. with_cell host.base.items c.args.file c.args.index (record { block = b; synced = true })) c.block_of.ensures.same in
    ap (λ (b : Drive). (state_of host.turns.items (start b) host.calls.items 0 0).sizes) base_is
    ∙ planted_sizes host.turns.items host.base.items c.args.file c.args.index c.args.block.now 0 0 host.calls.items c.requires.none

pub returns-clause-files : goal.returns-clause-files
returns-clause-files c =
    let host = c.args.self.now in
    let base_is = c.put_cell.ensures ∙ ap (λ b. with_cell host.base.items c.args.file c.args.index (record { block = b; synced = true })) c.block_of.ensures.same in
    ap (λ (b : Drive). (state_of host.turns.items (start b) host.calls.items 0 0).files) base_is
    ∙ planted_files host.turns.items host.base.items c.args.file c.args.index c.args.block.now 0 0 host.calls.items c.requires.none

pub returns-clause-left : goal.returns-clause-left
returns-clause-left c disk =
    let host = c.args.self.now in
    let base_is = c.put_cell.ensures ∙ ap (λ b. with_cell host.base.items c.args.file c.args.index (record { block = b; synced = true })) c.block_of.ensures.same in
    subst (λ (b : Drive). LeavesNow (state_of host.turns.items (start b) host.calls.items host.disk_faults host.port_faults) disk ↔ IsPlanted c.args.file c.args.index c.args.block.now (host_state host) disk) (sym base_is)
    (planted_left host.turns.items host.base.items c.args.file c.args.index c.args.block.now host.disk_faults host.port_faults host.calls.items c.requires.none disk)

pub returns-clause-same : goal.returns-clause-same
returns-clause-same c =
    let host = c.args.self.now in
    let base_is = c.put_cell.ensures ∙ ap (λ b. with_cell host.base.items c.args.file c.args.index (record { block = b; synced = true })) c.block_of.ensures.same in
    subst (λ (b : Drive). IsSameBut (host_state host) (state_of host.turns.items (start b) host.calls.items host.disk_faults host.port_faults)) (sym base_is)
    (planted_same host.turns.items host.base.items c.args.file c.args.index c.args.block.now host.disk_faults host.port_faults host.calls.items c.requires.none)
