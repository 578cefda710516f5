use Rattle.std.proofs.Common.{◌≡◌, ℕ, List, length, ap, arith}
use Rattle.std.proofs.lemmas.Result.{err_from_is_err_and}
use Rattle.ak_base.specs.declared.stop.Stop.TheVariants.{NoStore}
use Rattle.ak_gate.specs.Opening.{HasSlots}
use Rattle.ak_meta.proofs.Contents.{spelled_long}
use Rattle.ak_record.proofs.Refusals.{err_same, open_stop, content_stop, short_stop, not_short, no_store_not}
use Rattle.ak_record.proofs.opening.open_newest.Goals as goal

pub returns-in_err-gate-clause-err : goal.returns-in_err-gate-clause-err
returns-in_err-gate-clause-err g c =
    let stop = c.in_err-gate.field-0.0 in
    let none = λ (without : HasSlots (g.D.Outside.state c.args.disk.now) → ⊥). err_same stop NoStore (c.in_err-gate.ensures.no_slots without) in
    let p = err_from_is_err_and c.from_residual.result c.from_residual.ensures.1 in
    rw (p.1, p.2) (open_stop g.D.Outside.tells (g.D.Outside.state c.args.disk.now) (g.D.Outside.state c.open.new.disk) (λ told. g.met.D.Disk.sized told c.args.disk.now) stop none c.in_err-gate.ensures.err)

pub returns-in_err-meta-clause-err : goal.returns-in_err-meta-clause-err
returns-in_err-meta-clause-err g c =
    let gate = c.in_ok-gate.gate in
    let p = err_from_is_err_and c.from_residual-in_err-meta.result c.from_residual-in_err-meta.ensures.1 in
    rw (p.1, p.2) (content_stop g.D.Outside.tells (g.D.Outside.state c.args.disk.now) (g.D.Outside.state c.open.new.disk) gate
    (record { number = gate.number; payload = c.in_ok-gate.payload }) (λ told. c.in_ok-gate.ensures.knows told) c.in_ok-gate.ensures.gate.opened c.in_ok-gate.ensures.gate.some
    (λ told. c.in_ok-gate.ensures.newest told) c.as_slice.result.now c.as_slice.ensures c.in_err-meta.field-0.0 c.in_err-meta.ensures.err)

pub returns-in-Some-clause-err : goal.returns-in-Some-clause-err
returns-in-Some-clause-err g c =
    short_stop g.D.Outside.tells (g.D.Outside.state c.args.disk.now) (g.D.Outside.state c.open.new.disk) c.in_ok-gate.gate.slot
    (record { number = c.in_ok-gate.gate.number; payload = c.in_ok-gate.payload }) c.as_slice.result.now _ c.limits.result c.in-Some.short.file c.in-Some.short.blocks
    (λ told. g.met.D.Disk.sized told c.args.disk.now) c.open.ensures.sizes (λ told. (c.in_ok-gate.ensures.knows told).blocks) (λ told. c.in_ok-gate.ensures.newest told) c.as_slice.ensures
    c.in_ok-meta.ensures.spells c.limits.ensures c.in-Some.ensures

pub returns-clause-no_store : goal.returns-clause-no_store
returns-clause-no_store g c told none =
    no_store_not c.in_ok-gate.gate (g.D.Outside.state c.args.disk.now).files (c.in_ok-gate.ensures.knows told) c.in_ok-gate.ensures.gate.opened c.in_ok-gate.ensures.gate.some none

pub returns-clause-fits_slot : goal.returns-clause-fits_slot
returns-clause-fits_slot g c =
    let spells = c.in_ok-meta.ensures.spells in
    let payload : c.as_slice.result.now ≡ c.in_ok-gate.payload = c.as_slice.ensures in
    omega (arith, c.in_ok-gate.ensures.short, spelled_long _ spells.rules_are, ap (λ (bytes : List ℕ). length bytes) spells.is, ap (λ (bytes : List ℕ). length bytes) payload)

pub returns-clause-none_short : goal.returns-clause-none_short
returns-clause-none_short g c told file block =
    not_short (g.D.Outside.state c.args.disk.now) (g.D.Outside.state c.open.new.disk) c.in_ok-gate.gate.slot
    (record { number = c.in_ok-gate.gate.number; payload = c.in_ok-gate.payload }) c.as_slice.result.now _ c.limits.result
    (g.met.D.Disk.sized told c.args.disk.now) c.open.ensures.sizes (c.in_ok-gate.ensures.knows told).blocks (c.in_ok-gate.ensures.newest told) c.as_slice.ensures
    c.in_ok-meta.ensures.spells c.limits.ensures c.in_default.ensures file block
