use Rattle.std.proofs.Common.{inl, rules, sym, subst, None}
use Rattle.ak_host.specs.Moments.{DiskPasses}
use Rattle.ak_host.proofs.Passing.{disk_goes_on, disk_now, disk_weaker}
use Rattle.ak_record.specs.Records.{Rests}
use Rattle.ak_record.specs.Stops.{IsNoStore}
use Rattle.ak_checkpoint.specs.Making.{AreEmpty}
use Rattle.ak_checkpoint.proofs.Stores.{first_rests, first_begun, first_passes, first_now, still_empty}
use Rattle.ak_checkpoint.proofs.making.make_store.Goals as goal

pub returns-in_err-make_files-clause-moments : goal.returns-in_err-make_files-clause-moments
returns-in_err-make_files-clause-moments g c told none =
    let tested = disk_weaker (c.is_taken.ensures.moments told) none in
    disk_weaker (disk_goes_on tested (c.make_files.ensures.moments told (disk_now tested none)) (λ disk no_store. no_store)) (λ disk no_store. inl no_store)

pub returns-in-Err-clause-moments : goal.returns-in-Err-clause-moments
returns-in-Err-clause-moments g c told none =
    let old = g.D.Outside.state c.args.disk.now in
    let tested = disk_weaker (c.is_taken.ensures.moments told) none in
    let made : DiskPasses IsNoStore old (g.D.Outside.state c.make_files.new.disk) = disk_goes_on tested (c.make_files.ensures.moments told (disk_now tested none)) (λ disk no_store. no_store) in
    disk_weaker (subst (λ d. DiskPasses IsNoStore old (g.D.Outside.state d)) (sym c.first-gate.ensures.same) made) (λ disk no_store. inl no_store)

pub returns-in-Err-finish-clause-moments : goal.returns-in-Err-finish-clause-moments
returns-in-Err-finish-clause-moments g c told none =
    let slot = c.args.limits.now.slot in
    let old = g.D.Outside.state c.args.disk.now in
    let tested = disk_weaker (c.is_taken.ensures.moments told) none in
    let made : DiskPasses IsNoStore old (g.D.Outside.state c.make_files.new.disk) = disk_goes_on tested (c.make_files.ensures.moments told (disk_now tested none)) (λ disk no_store. no_store) in
    let so_far = subst (λ d. DiskPasses IsNoStore old (g.D.Outside.state d)) (sym c.first-gate.ensures.same) made in
    let rests = subst (λ d. Rests slot None (g.D.Outside.state d)) (sym c.first-gate.ensures.same) (first_rests slot (g.D.Outside.state c.make_files.new.disk) (c.in_ok-make_files.ensures.zeros told) (c.in_ok-make_files.ensures.stable told)) in
    first_passes c.args.limits.now c.in-Ok.begun.1 (g.D.Outside.state c.first-gate.new.disk) (g.D.Outside.state c.finish.new.disk) c.requires
    (first_begun c.args.limits.now c.first-gate.result c.in-Ok.begun.1 c.in-Ok.ensures.checkpoint c.first-gate.ensures.gate) rests old
    (subst (λ d. AreEmpty c.args.limits.now (g.D.Outside.state d)) (sym c.first-gate.ensures.same) (c.in_ok-make_files.ensures.empty told)) so_far (c.finish.ensures.moments told)

pub returns-in-Ok-finish-clause-moments : goal.returns-in-Ok-finish-clause-moments
returns-in-Ok-finish-clause-moments g c told none =
    let slot = c.args.limits.now.slot in
    let old = g.D.Outside.state c.args.disk.now in
    let tested = disk_weaker (c.is_taken.ensures.moments told) none in
    let made : DiskPasses IsNoStore old (g.D.Outside.state c.make_files.new.disk) = disk_goes_on tested (c.make_files.ensures.moments told (disk_now tested none)) (λ disk no_store. no_store) in
    let so_far = subst (λ d. DiskPasses IsNoStore old (g.D.Outside.state d)) (sym c.first-gate.ensures.same) made in
    let rests = subst (λ d. Rests slot None (g.D.Outside.state d)) (sym c.first-gate.ensures.same) (first_rests slot (g.D.Outside.state c.make_files.new.disk) (c.in_ok-make_files.ensures.zeros told) (c.in_ok-make_files.ensures.stable told)) in
    first_passes c.args.limits.now c.in-Ok.begun.1 (g.D.Outside.state c.first-gate.new.disk) (g.D.Outside.state c.finish.new.disk) c.requires
    (first_begun c.args.limits.now c.first-gate.result c.in-Ok.begun.1 c.in-Ok.ensures.checkpoint c.first-gate.ensures.gate) rests old
    (subst (λ d. AreEmpty c.args.limits.now (g.D.Outside.state d)) (sym c.first-gate.ensures.same) (c.in_ok-make_files.ensures.empty told)) so_far (c.finish.ensures.moments told)

pub returns-in-Ok-finish-clause-rests : goal.returns-in-Ok-finish-clause-rests
returns-in-Ok-finish-clause-rests g c told disk left =
    let slot = c.args.limits.now.slot in
    let rests = subst (λ d. Rests slot None (g.D.Outside.state d)) (sym c.first-gate.ensures.same) (first_rests slot (g.D.Outside.state c.make_files.new.disk) (c.in_ok-make_files.ensures.zeros told) (c.in_ok-make_files.ensures.stable told)) in
    (first_now c.args.limits.now c.in-Ok.begun.1 (g.D.Outside.state c.first-gate.new.disk) (g.D.Outside.state c.finish.new.disk) c.requires
    (first_begun c.args.limits.now c.first-gate.result c.in-Ok.begun.1 c.in-Ok.ensures.checkpoint c.first-gate.ensures.gate) rests (c.in-Ok-finish.ensures.saved told) disk left).1

pub returns-in-Ok-finish-clause-empty : goal.returns-in-Ok-finish-clause-empty
returns-in-Ok-finish-clause-empty g c told =
    let slot = c.args.limits.now.slot in
    let mid = g.D.Outside.state c.first-gate.new.disk in
    let new = g.D.Outside.state c.finish.new.disk in
    let rests = subst (λ d. Rests slot None (g.D.Outside.state d)) (sym c.first-gate.ensures.same) (first_rests slot (g.D.Outside.state c.make_files.new.disk) (c.in_ok-make_files.ensures.zeros told) (c.in_ok-make_files.ensures.stable told)) in
    let now = first_now c.args.limits.now c.in-Ok.begun.1 mid new c.requires (first_begun c.args.limits.now c.first-gate.result c.in-Ok.begun.1 c.in-Ok.ensures.checkpoint c.first-gate.ensures.gate) rests (c.in-Ok-finish.ensures.saved told) in
    still_empty c.args.limits.now 1 mid new (c.finish.ensures.elsewhere told) (λ disk left. (now disk left).0)
    (subst (λ d. AreEmpty c.args.limits.now (g.D.Outside.state d)) (sym c.first-gate.ensures.same) (c.in_ok-make_files.ensures.empty told))

pub returns-in-Ok-finish-clause-kept : goal.returns-in-Ok-finish-clause-kept
returns-in-Ok-finish-clause-kept g c told taken =
    let there = (c.in_ok-is_taken.ensures.taken told).1 taken in
    absurd (search rules)

pub returns-in-Err-finish-clause-kept : goal.returns-in-Err-finish-clause-kept
returns-in-Err-finish-clause-kept g c told taken =
    let there = (c.in_ok-is_taken.ensures.taken told).1 taken in
    absurd (search rules)
