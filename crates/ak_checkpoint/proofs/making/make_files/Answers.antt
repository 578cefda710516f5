use Rattle.std.proofs.Common.{◌+◌, ◌*◌, ◌∙◌, ℕ, List, ap, arith, length, slice_index}
use Rattle.ak_host.specs.Files.{Files, file_at, zero_blocks}
use Rattle.ak_host.proofs.Passing.{disk_goes_on, disk_weaker}
use Rattle.ak_checkpoint.proofs.Sizes.{sizes_to, sizes_made}
use Rattle.ak_checkpoint.proofs.Stores.{with_item-past, with_item-same, with_item-zero, making_left, zeros_no_store}
use Rattle.ak_checkpoint.proofs.making.make_files.Goals as goal

pub returns-in-Err-clause-moments : goal.returns-in-Err-clause-moments
returns-in-Err-clause-moments g c told none =
    disk_weaker (c.make.ensures.moments told) (making_left c.args.limits.now.slot (g.D.Outside.state c.args.disk.now) none)

pub make_volumes-requires-clause-there : goal.make_volumes-requires-clause-there
make_volumes-requires-clause-there g c =
    omega (arith, ap length c.in_default.ensures.sizes, with_item-past (g.D.Outside.state c.args.disk.now).sizes 0 (2 + 2 * c.args.limits.now.slot) (omega arith))

pub returns-in_err-make_volumes-clause-moments : goal.returns-in_err-make_volumes-clause-moments
returns-in_err-make_volumes-clause-moments g c told none =
    let slot = c.args.limits.now.slot in
    let old = g.D.Outside.state c.args.disk.now in
    disk_goes_on (disk_weaker (c.make.ensures.moments told) (making_left slot old none)) (c.make_volumes.ensures.moments told)
    (λ disk is. zeros_no_store slot disk (is ∙ ap (λ (files : Files). file_at files 0) (c.in_default.ensures.files told) ∙ with_item-zero old.files (zero_blocks (2 + 2 * slot))))

pub returns-clause-moments : goal.returns-clause-moments
returns-clause-moments g c told none =
    let slot = c.args.limits.now.slot in
    let old = g.D.Outside.state c.args.disk.now in
    disk_goes_on (disk_weaker (c.make.ensures.moments told) (making_left slot old none)) (c.make_volumes.ensures.moments told)
    (λ disk is. zeros_no_store slot disk (is ∙ ap (λ (files : Files). file_at files 0) (c.in_default.ensures.files told) ∙ with_item-zero old.files (zero_blocks (2 + 2 * slot))))

pub returns-clause-made : goal.returns-clause-made
returns-clause-made g c = record {
  number = c.in_ok-make_volumes.ensures.number;
  first = c.in_ok-make_volumes.ensures.first ∙ ap (λ (sizes : List ℕ). slice_index sizes 0) c.in_default.ensures.sizes
      ∙ with_item-same (g.D.Outside.state c.args.disk.now).sizes 0 (2 + 2 * c.args.limits.now.slot) (omega arith);
  volumes = c.in_ok-make_volumes.ensures.volumes;
}

pub returns-clause-zeros : goal.returns-clause-zeros
returns-clause-zeros g c told =
    c.in_ok-make_volumes.ensures.same told ∙ ap (λ (files : Files). file_at files 0) (c.in_default.ensures.files told)
    ∙ with_item-zero (g.D.Outside.state c.args.disk.now).files (zero_blocks (2 + 2 * c.args.limits.now.slot))

pub returns-clause-sizes : goal.returns-clause-sizes
returns-clause-sizes g c =
    let limits = c.args.limits.now in
    let old = (g.D.Outside.state c.args.disk.now).sizes in
    c.in_ok-make_volumes.ensures.sizes ∙ ap (λ (l : List ℕ). sizes_to l limits.blocks limits.volumes) c.in_default.ensures.sizes ∙ sizes_made limits old
