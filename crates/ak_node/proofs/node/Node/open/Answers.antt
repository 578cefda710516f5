use Rattle.std.proofs.Common.{◌∙◌, ◌≡◌, ℕ, List, rules, length, slice_index, refl, sym, ap, subst, arith, [], false}
use Rattle.std.proofs.lemmas.Result.{err_from_is_err_and}
use Rattle.ak_gate.specs.Slots.{newest}
use Rattle.ak_host.specs.Files.{Files, file_at}
use Rattle.ak_host.specs.Moments.{DiskPasses, LeavesNow}
use Rattle.ak_host.proofs.Passing.{disk_goes_on, disk_now, stays_stable}
use Rattle.ak_image.specs.Images.{IsSound, StandsFor}
use Rattle.ak_meta.specs.Contents.{Content}
use Rattle.ak_node.specs.Opening.{IsNodeOpenStop}
use Rattle.ak_node.specs.declared.keeper.Keeper.{Keeper}
use Rattle.ak_node.proofs.Starting.{open_sound, opened_ready, node_serves, node_stands, found_view, found_laid, found_holds, there_of, file_long, found_is, one_found, node_found, sound_found, stop_repaired}
use Rattle.ak_node.proofs.StillReady.{ready_still, holds_still}
use Rattle.ak_record.specs.Stops.{IsNoStore}
use Rattle.ak_repair.proofs.OnlyReading.{stop_from}
use Rattle.ak_world.specs.Worlds.{world_of}
use Rattle.ak_node.proofs.node.Node.open.Goals as goal

pub returns-in_err-opened-clause-sound : goal.returns-in_err-opened-clause-sound
returns-in_err-opened-clause-sound g c told sound =
    let mid = g.D.Outside.state c.sync_all.new.disk in
    let new = g.D.Outside.state c.open_newest.new.disk in
    let p = err_from_is_err_and c.from_residual-in_err-opened.result c.from_residual-in_err-opened.ensures.1 in
    rw (p.1, p.2) (open_sound g.D.Outside.tells told mid new (subst IsSound (sym (c.sync_all.ensures.files told)) sound) c.in_err-opened.field-0.0 c.in_err-opened.ensures.err)

pub repaired-requires-clause-there : goal.repaired-requires-clause-there
repaired-requires-clause-there g c =
    let e = c.in_ok-opened.ensures in
    there_of c.in_ok-opened.opened.meta (g.D.Outside.state c.open_newest.new.disk) e.rules e.there

pub returns-in_err-waiting-clause-err : goal.returns-in_err-waiting-clause-err
returns-in_err-waiting-clause-err g c =
    let o = c.in_ok-opened.opened in
    let e = c.in_ok-opened.ensures in
    let old = g.D.Outside.state c.args.disk.now in
    let mid = g.D.Outside.state c.open_newest.new.disk in
    let new = g.D.Outside.state c.repaired.new.disk in
    stop_from (IsNodeOpenStop g.D.Outside.tells old new) c.from_residual-in_err-waiting.result c.in_err-waiting.field-0.0 c.from_residual-in_err-waiting.ensures.1
    (stop_repaired g.D.Outside.tells o.gate.number o.meta old mid new c.in_err-waiting.field-0.0
    (λ told.
    let first = c.sync_all.ensures.files told in
    let blocks = file_long mid (g.met.D.Disk.sized told c.open_newest.new.disk) ∙ e.gate.0.sized.blocks in
    found_is o.gate.slot o.gate.number o.meta old.files e.rules e.gate.1 (ap (λ (f : Files). length (file_at f 0)) (sym (c.open_newest.ensures.files told ∙ first)) ∙ blocks)
    (ap (λ (f : Files). newest o.gate.slot f) (sym first) ∙ e.newest told))
    (omega (arith, c.sync_all.ensures.later, c.open_newest.ensures.later)) c.repaired.ensures.reads.files c.in_err-waiting.ensures.stops)

pub returns-in_err-waiting-clause-sound : goal.returns-in_err-waiting-clause-sound
returns-in_err-waiting-clause-sound g c told sound =
    let o = c.in_ok-opened.opened in
    let e = c.in_ok-opened.ensures in
    let mid = g.D.Outside.state c.open_newest.new.disk in
    let same = c.open_newest.ensures.files told ∙ c.sync_all.ensures.files told in
    let blocks = file_long mid (g.met.D.Disk.sized told c.open_newest.new.disk) ∙ e.gate.0.sized.blocks in
    let laid = sound_found o.gate.slot o.gate.number o.meta mid.files (subst IsSound (sym same) sound) e.rules e.gate.1 blocks
    (ap (λ (f : Files). newest o.gate.slot f) (c.open_newest.ensures.files told) ∙ e.newest told) in
    let p = err_from_is_err_and c.from_residual-in_err-waiting.result c.from_residual-in_err-waiting.ensures.1 in
    rw (p.1, p.2) (c.in_err-waiting.ensures.sound told laid.0 laid.1)

pub returns-in-Ok-clause-ready : goal.returns-in-Ok-clause-ready
returns-in-Ok-clause-ready g c =
    let o = c.in_ok-opened.opened in
    let e = c.in_ok-opened.ensures in
    let mid = g.D.Outside.state c.open_newest.new.disk in
    let new = g.D.Outside.state c.repaired.new.disk in
    let before = opened_ready g.D.Outside.tells o.meta c.in_ok-waiting.waiting.levels (record { gate = o.gate; pending = false; number = o.gate.number; bytes = []; file = 0 }) c.in-Ok.keeper mid c.in-Ok.ensures.opened
    e.gate.0.whole e.gate.0.opened refl refl e.gate.0.sized (there_of o.meta mid e.rules e.there) (λ t. e.fits t (c.in_ok-sync_all.ensures.stable t 0 (search rules))) in
    node_serves g.D.Outside.tells c.over.result c.in-Ok.keeper new c.over.ensures.keeper c.over.ensures.sessions (ready_still c.in-Ok.keeper c.in-Ok.keeper mid new refl refl c.repaired.ensures.reads before)

pub returns-in-Ok-clause-stands : goal.returns-in-Ok-clause-stands
returns-in-Ok-clause-stands g c told view sound stands =
    let o = c.in_ok-opened.opened in
    let e = c.in_ok-opened.ensures in
    let mid = g.D.Outside.state c.open_newest.new.disk in
    let new = g.D.Outside.state c.repaired.new.disk in
    let same = c.open_newest.ensures.files told ∙ c.sync_all.ensures.files told in
    let sizes = c.open_newest.ensures.sizes ∙ c.sync_all.ensures.sizes in
    let blocks = file_long mid (g.met.D.Disk.sized told c.open_newest.new.disk) ∙ e.gate.0.sized.blocks in
    let sound_mid = subst IsSound (sym same) sound in
    let stands_mid = subst (StandsFor view) (sym same) stands in
    let is = found_view view mid.files o.gate.slot o.gate.number o.meta stands_mid e.rules e.gate.1 blocks (ap (λ (f : Files). newest o.gate.slot f) (c.open_newest.ensures.files told) ∙ e.newest told) in
    let repaired = c.in_ok-waiting.ensures.planted told view.kept (found_laid view o.gate.number o.meta mid.files is sound_mid stands_mid) in
    let before = found_holds view o.gate.number o.meta c.in_ok-waiting.waiting.levels (record { gate = o.gate; pending = false; number = o.gate.number; bytes = []; file = 0 }) c.in-Ok.keeper mid is refl c.in-Ok.ensures.opened
    sound_mid stands_mid repaired e.there
    (λ file within. stays_stable file (c.open_newest.ensures.moments told) (c.open_newest.ensures.files told) (c.in_ok-sync_all.ensures.stable told file (omega (arith, within, ap length sizes)))) in
    node_stands view c.over.result c.in-Ok.keeper new c.over.ensures.stop c.over.ensures.keeper c.over.ensures.sessions
    (holds_still (world_of view) c.in-Ok.keeper c.in-Ok.keeper mid new refl c.repaired.ensures.reads told before)

pub returns-in-Ok-clause-moments : goal.returns-in-Ok-clause-moments
returns-in-Ok-clause-moments g c told =
    let old = g.D.Outside.state c.args.disk.now in
    let first = c.sync_all.ensures.moments told in
    let second : DiskPasses (LeavesNow old) old (g.D.Outside.state c.open_newest.new.disk) = disk_goes_on first (c.open_newest.ensures.moments told) (disk_now first (λ disk left. left)) in
    disk_goes_on second (c.repaired.ensures.reads.moments told) (disk_now second (λ disk left. left))

pub returns-in-Err-clause-moments : goal.returns-in-Err-clause-moments
returns-in-Err-clause-moments g c told =
    let old = g.D.Outside.state c.args.disk.now in
    let first = c.sync_all.ensures.moments told in
    let second : DiskPasses (LeavesNow old) old (g.D.Outside.state c.open_newest.new.disk) = disk_goes_on first (c.open_newest.ensures.moments told) (disk_now first (λ disk left. left)) in
    disk_goes_on second (c.repaired.ensures.reads.moments told) (disk_now second (λ disk left. left))

pub returns-in-Ok-clause-found : goal.returns-in-Ok-clause-found
returns-in-Ok-clause-found g c told =
    let o = c.in_ok-opened.opened in
    let e = c.in_ok-opened.ensures in
    let mid = g.D.Outside.state c.open_newest.new.disk in
    let first = c.sync_all.ensures.files told in
    let same = c.open_newest.ensures.files told ∙ first in
    let blocks = file_long mid (g.met.D.Disk.sized told c.open_newest.new.disk) ∙ e.gate.0.sized.blocks in
    node_found o.gate.number o.meta c.in_ok-waiting.waiting.levels (record { gate = o.gate; pending = false; number = o.gate.number; bytes = []; file = 0 }) c.in-Ok.keeper c.over.result _ c.over.ensures.keeper c.in-Ok.ensures.opened refl
    (found_is o.gate.slot o.gate.number o.meta (g.D.Outside.state c.args.disk.now).files e.rules e.gate.1 (ap (λ (f : Files). length (file_at f 0)) (sym same) ∙ blocks) (ap (λ (f : Files). newest o.gate.slot f) (sym first) ∙ e.newest told))

pub returns-in_err-waiting-clause-moments : goal.returns-in_err-waiting-clause-moments
returns-in_err-waiting-clause-moments g c told =
    let old = g.D.Outside.state c.args.disk.now in
    let first = c.sync_all.ensures.moments told in
    let second : DiskPasses (LeavesNow old) old (g.D.Outside.state c.open_newest.new.disk) = disk_goes_on first (c.open_newest.ensures.moments told) (disk_now first (λ disk left. left)) in
    disk_goes_on second (c.repaired.ensures.reads.moments told) (disk_now second (λ disk left. left))

pub returns-in_err-waiting-clause-few : goal.returns-in_err-waiting-clause-few
returns-in_err-waiting-clause-few g c told number found is =
    let o = c.in_ok-opened.opened in
    let e = c.in_ok-opened.ensures in
    let mid = g.D.Outside.state c.open_newest.new.disk in
    let first = c.sync_all.ensures.files told in
    let same = c.open_newest.ensures.files told ∙ first in
    let blocks = file_long mid (g.met.D.Disk.sized told c.open_newest.new.disk) ∙ e.gate.0.sized.blocks in
    let here = found_is o.gate.slot o.gate.number o.meta (g.D.Outside.state c.args.disk.now).files e.rules e.gate.1 (ap (λ (f : Files). length (file_at f 0)) (sym same) ∙ blocks)
    (ap (λ (f : Files). newest o.gate.slot f) (sym first) ∙ e.newest told) in
    let series = ap (λ (m : Content). length m.series) (one_found o.gate.number number o.meta found (g.D.Outside.state c.args.disk.now).files here is) in
    omega (arith, c.repaired.ensures.few told, c.open_newest.ensures.reads told, c.sync_all.ensures.reads told, ap (λ (l : List ℕ). slice_index l 0) c.sync_all.ensures.sizes, series)

pub returns-in-Ok-clause-few : goal.returns-in-Ok-clause-few
returns-in-Ok-clause-few g c told number found is =
    let o = c.in_ok-opened.opened in
    let e = c.in_ok-opened.ensures in
    let mid = g.D.Outside.state c.open_newest.new.disk in
    let first = c.sync_all.ensures.files told in
    let same = c.open_newest.ensures.files told ∙ first in
    let blocks = file_long mid (g.met.D.Disk.sized told c.open_newest.new.disk) ∙ e.gate.0.sized.blocks in
    let here = found_is o.gate.slot o.gate.number o.meta (g.D.Outside.state c.args.disk.now).files e.rules e.gate.1 (ap (λ (f : Files). length (file_at f 0)) (sym same) ∙ blocks)
    (ap (λ (f : Files). newest o.gate.slot f) (sym first) ∙ e.newest told) in
    let series = ap (λ (m : Content). length m.series) (one_found o.gate.number number o.meta found (g.D.Outside.state c.args.disk.now).files here is) in
    omega (arith, c.repaired.ensures.few told, c.open_newest.ensures.reads told, c.sync_all.ensures.reads told, ap (λ (l : List ℕ). slice_index l 0) c.sync_all.ensures.sizes, series)

pub returns-in-Err-clause-few : goal.returns-in-Err-clause-few
returns-in-Err-clause-few g c told number found is =
    let o = c.in_ok-opened.opened in
    let e = c.in_ok-opened.ensures in
    let mid = g.D.Outside.state c.open_newest.new.disk in
    let first = c.sync_all.ensures.files told in
    let same = c.open_newest.ensures.files told ∙ first in
    let blocks = file_long mid (g.met.D.Disk.sized told c.open_newest.new.disk) ∙ e.gate.0.sized.blocks in
    let here = found_is o.gate.slot o.gate.number o.meta (g.D.Outside.state c.args.disk.now).files e.rules e.gate.1 (ap (λ (f : Files). length (file_at f 0)) (sym same) ∙ blocks)
    (ap (λ (f : Files). newest o.gate.slot f) (sym first) ∙ e.newest told) in
    let series = ap (λ (m : Content). length m.series) (one_found o.gate.number number o.meta found (g.D.Outside.state c.args.disk.now).files here is) in
    omega (arith, c.repaired.ensures.few told, c.open_newest.ensures.reads told, c.sync_all.ensures.reads told, ap (λ (l : List ℕ). slice_index l 0) c.sync_all.ensures.sizes, series)

pub returns-in-Ok-clause-no_store : goal.returns-in-Ok-clause-no_store
returns-in-Ok-clause-no_store g c told none =
    c.in_ok-opened.ensures.no_store told (subst IsNoStore (sym (c.sync_all.ensures.files told)) none)

pub returns-in-Ok-clause-files : goal.returns-in-Ok-clause-files
returns-in-Ok-clause-files g c told = c.repaired.ensures.reads.files told ∙ c.open_newest.ensures.files told ∙ c.sync_all.ensures.files told

pub returns-in-Ok-clause-reads : goal.returns-in-Ok-clause-reads
returns-in-Ok-clause-reads g c told =
    let kept : c.over.result.keeper.forest.meta ≡ c.in_ok-opened.opened.meta = ap (λ (k : Keeper). k.forest.meta) c.over.ensures.keeper ∙ c.in-Ok.ensures.opened.meta_is in
    omega (
      arith,
      c.repaired.ensures.few told,
      c.open_newest.ensures.reads told,
      c.sync_all.ensures.reads told,
      ap (λ (l : List ℕ). slice_index l 0) c.sync_all.ensures.sizes,
      ap (λ (m : Content). length m.series) kept,
    )
