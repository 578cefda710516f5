use Rattle.std.proofs.Common.{◌≡◌, ◌∙◌, ◌+◌, ◌*◌, ◌-◌, ◌/◌, length, slice_index, ap, arith, sym, subst, List, ℕ}
use Rattle.ak_host.specs.Files.{Files, file_at}
use Rattle.ak_host.proofs.Passing.{stays_stable, disk_goes_on, disk_now}
use Rattle.ak_gate.specs.Fits.{Knows}
use Rattle.ak_gate.proofs.Found.{length_file, found_knows}
use Rattle.ak_gate.proofs.Fitting.{fits_stable}
use Rattle.ak_gate.proofs.gate.Gate.open.Goals as goal

pub returns-clause-knows : goal.returns-clause-knows
returns-clause-knows g c told =
    let old = g.D.Outside.state c.args.disk.now in
    let slot = (c.blocks_of-blocks.result - 2) / 2 in
    let long : length (file_at old.files 0) ≡ 2 + 2 * slot =
    omega (arith, length_file old.files, ap (λ (sizes : List ℕ). slice_index sizes 0) (g.met.D.Disk.sized told c.args.disk.now), c.blocks_of-blocks.ensures.blocks, c.if-blocks-lt4.false, c.if-blocks-eq1.false) in
    found_knows slot (file_at old.files 0) c.in_ok-found.found long (c.in_ok-found.ensures.found told)

pub returns-clause-fits : goal.returns-clause-fits
returns-clause-fits g c told stable =
    let old = g.D.Outside.state c.args.disk.now in
    let new = g.D.Outside.state c.read_payload.new.disk in
    let first = c.in_ok-found.ensures.only told in
    let second = c.in_ok-payload.ensures.only told in
    let slot = (c.blocks_of-blocks.result - 2) / 2 in
    let same : new.files ≡ old.files = second.files ∙ first.files in
    let run = disk_goes_on first.moments second.moments (disk_now first.moments (λ d was. was)) in
    let long : length (file_at old.files 0) ≡ 2 + 2 * slot =
    omega (arith, length_file old.files, ap (λ (sizes : List ℕ). slice_index sizes 0) (g.met.D.Disk.sized told c.args.disk.now), c.blocks_of-blocks.ensures.blocks, c.if-blocks-lt4.false, c.if-blocks-eq1.false) in
    fits_stable _ new (subst (Knows _) (sym (ap (λ (files : Files). file_at files 0) same)) (found_knows slot (file_at old.files 0) c.in_ok-found.found long (c.in_ok-found.ensures.found told))) (stays_stable 0 run same stable)
