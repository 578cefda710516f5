use Rattle.std.proofs.Common.{◌≡◌, ◌+◌, ◌<◌, ◌≤◌, ◌∙◌, ℕ, suc, [], ◌∷◌, ◌++◌, List, length, set, ap, ap₂, sym, subst, arith}
use Rattle.ak_host.proofs.Passing.{disk_goes_on}
use Rattle.ak_base.specs.Points.{last_ts_from}
use Rattle.ak_image.specs.Laid.{spot}
use Rattle.ak_levels.specs.Carries.{carry_of}
use Rattle.ak_levels.specs.Closes.{raised, emptied}
use Rattle.ak_levels.specs.Entries.{AreLawful}
use Rattle.ak_levels.specs.Pending.{Lists, HasRoom, with_pending, pending_at}
use Rattle.ak_meta.specs.Contents.{Content, names_of}
use Rattle.ak_meta.specs.Leaves.{closed_in, leaves_at}
use Rattle.ak_meta.specs.declared.meta.SeriesMeta.{SeriesMeta}
use Rattle.ak_pool.specs.Frames.{Frames, leaf_of}
use Rattle.ak_tree.specs.Standing.{Trees, AreTrees, Holds, levels_at, last_known}
use Rattle.ak_tree.specs.Writing.{IsGroup}
use Rattle.ak_volumes.specs.Ordinals.{newest_fill, filled}
use Rattle.ak_tree.proofs.Closed.{IsRoomed, is_roomed, known_few, others_of, frame_found, group_blocks, closed_worn, closed_early, closed_passes, closed_holds, fits_outside, ready_same, names_closed, fewer_used, last_closed, holds_placed, enter_place, enter_lawful, is_after, IsAfter, index_fits, group_here}
use Rattle.ak_tree.proofs.Groups.{group_is}
use Rattle.ak_tree.proofs.Telling.{worn_from, memory_from}
use Rattle.ak_tree.proofs.Worn.{closed_left}
use Rattle.ak_tree.proofs.Waiting.{places_next, opens_level, trees_set}
use Rattle.ak_tree.specs.Later.{KeepsOrigins}
use Rattle.ak_tree.proofs.Becoming.{leaves_others}
use Rattle.ak_tree.proofs.Placed.{origins_entered}
use Rattle.ak_tree.proofs.forest.Forest.close_leaf.Goals as goal

pub returns-in_err-reserve-clause-memory : goal.returns-in_err-reserve-clause-memory
returns-in_err-reserve-clause-memory g c =
    let f = c.args.self.now in
    let are : AreTrees f = subst AreTrees c.self.view_is c.self.invariant in
    memory_from c.from_residual.result c.in_err-reserve.field-0.0 c.from_residual.ensures.1 (opens_level f c.args.series are c.requires.known) c.in_err-reserve.ensures.memory

pub carry-others-requires : goal.carry-others-requires
carry-others-requires g c =
    let n = c.args.series in
    let placed : n < length c.reserve.new.self.meta.series = subst (λ (f : Trees). n < length f.meta.series) (sym c.in_ok-reserve.ensures.same) c.requires.known in
    let within : n < length c.self-2.inside.meta.series = subst (λ (f : Trees). n < length f.meta.series) (sym c.self-2.view_is) placed in
    known_few c.series.result.now c.self-2.inside.meta n c.index-series-series.result c.series.ensures c.self-2.invariant.rules_are within

pub returns-in_err-make_place-clause-worn : goal.returns-in_err-make_place-clause-worn
returns-in_err-make_place-clause-worn g c told w holds =
    let n = c.args.series in
    let f = c.args.self.now in
    let one = c.reserve.new.self in
    let others = c.carry-others.result in
    let placed = c.in_ok-reserve.ensures.same in
    let within : n < length one.meta.series = subst (λ (t : Trees). n < length t.meta.series) (sym placed) c.requires.known in
    let others_is = others_of c.series.result.now one.meta.series n others c.index-series-series.result (c.series.ensures ∙ ap (λ (t : Trees). t.meta.series) c.self-2.view_is) within c.carry-others.ensures.carry in
    let held : Holds w one (g.D.Outside.state c.args.disk.now) = holds_placed w f one (g.D.Outside.state c.args.disk.now) (places_next f one n placed) holds in
    let group = group_blocks w one n others held.keeps within others_is in
    worn_from c.from_residual-in_err-make_place.result c.in_err-make_place.field-0.0 c.from_residual-in_err-make_place.ensures.1 (λ s. closed_worn w n (1 + others) s group) (c.in_err-make_place.ensures.worn told w held)

pub returns-in_err-make_place-clause-left : goal.returns-in_err-make_place-clause-left
returns-in_err-make_place-clause-left g c told w holds =
    let n = c.args.series in
    let f = c.args.self.now in
    let one = c.reserve.new.self in
    let others = c.carry-others.result in
    let placed = c.in_ok-reserve.ensures.same in
    let within : n < length one.meta.series = subst (λ (t : Trees). n < length t.meta.series) (sym placed) c.requires.known in
    let others_is = others_of c.series.result.now one.meta.series n others c.index-series-series.result (c.series.ensures ∙ ap (λ (t : Trees). t.meta.series) c.self-2.view_is) within c.carry-others.ensures.carry in
    let held : Holds w one (g.D.Outside.state c.args.disk.now) = holds_placed w f one (g.D.Outside.state c.args.disk.now) (places_next f one n placed) holds in
    let group = group_blocks w one n others held.keeps within others_is in
    worn_from c.from_residual-in_err-make_place.result c.in_err-make_place.field-0.0 c.from_residual-in_err-make_place.ensures.1 (λ s. closed_left w n (1 + others) c.make_place.new.self group) (c.in_err-make_place.ensures.left told w held)

pub returns-in_err-make_place-clause-moments : goal.returns-in_err-make_place-clause-moments
returns-in_err-make_place-clause-moments g c told w holds =
    let n = c.args.series in
    let f = c.args.self.now in
    let one = c.reserve.new.self in
    let others = c.carry-others.result in
    let placed = c.in_ok-reserve.ensures.same in
    let within : n < length one.meta.series = subst (λ (t : Trees). n < length t.meta.series) (sym placed) c.requires.known in
    let others_is = others_of c.series.result.now one.meta.series n others c.index-series-series.result (c.series.ensures ∙ ap (λ (t : Trees). t.meta.series) c.self-2.view_is) within c.carry-others.ensures.carry in
    let held : Holds w one (g.D.Outside.state c.args.disk.now) = holds_placed w f one (g.D.Outside.state c.args.disk.now) (places_next f one n placed) holds in
    let group = group_blocks w one n others held.keeps within others_is in
    closed_early w n (1 + others) (g.D.Outside.state c.args.disk.now) (g.D.Outside.state c.make_place.new.disk) group (c.make_place.ensures.moments told w held)

pub get_mut-levels-requires : goal.get_mut-levels-requires
get_mut-levels-requires g c =
    let n = c.args.series in
    let f = c.args.self.now in
    let one = c.reserve.new.self in
    let room = c.make_place.new.self in
    let others = c.carry-others.result in
    let frame = c.in-Some.frame in
    let are : AreTrees room = subst AreTrees c.self-3.view_is c.self-3.invariant in
    let framed = frame_found f n c.self.inside.frames.items c.index.result.now frame (subst AreTrees c.self.view_is c.self.invariant) (ap (λ (t : Trees). t.frames) c.self.view_is) c.requires.known c.index.ensures c.in-Some.is in
    let roomed : IsRoomed f room n frame = is_roomed f one room n frame c.in_ok-reserve.ensures.same c.in_ok-reserve.ensures.places c.in_ok-make_place.ensures.same are c.requires.known framed in
    subst (λ (t : Trees). n < length t.levels) (sym c.self-3.view_is) roomed.long

pub write_group-requires-clause-index : goal.write_group-requires-clause-index
write_group-requires-clause-index g c =
    let n = c.args.series in
    let f = c.args.self.now in
    let one = c.reserve.new.self in
    let room = c.make_place.new.self in
    let others = c.carry-others.result in
    let frame = c.in-Some.frame in
    let are : AreTrees room = subst AreTrees c.self-3.view_is c.self-3.invariant in
    let framed = frame_found f n c.self.inside.frames.items c.index.result.now frame (subst AreTrees c.self.view_is c.self.invariant) (ap (λ (t : Trees). t.frames) c.self.view_is) c.requires.known c.index.ensures c.in-Some.is in
    let roomed : IsRoomed f room n frame = is_roomed f one room n frame c.in_ok-reserve.ensures.same c.in_ok-reserve.ensures.places c.in_ok-make_place.ensures.same are c.requires.known framed in
    let index_is = c.n-index.ensures ∙ ap newest_fill (c.volumes.ensures ∙ ap (λ (t : Trees). t.meta.ordinals) c.self-3.view_is) in
    index_fits room.meta.ordinals (g.D.Outside.state c.make_place.new.disk) c.newest_file-file.result c.n-index.result (1 + c.group-group.result.others) are.rules_are.ordinals_are c.in_ok-make_place.ensures.ready.there c.newest_file-file.ensures index_is
    (omega (arith, c.group-group.ensures.others, c.in_ok-make_place.ensures.room))

pub write_group-requires-clause-lawful : goal.write_group-requires-clause-lawful
write_group-requires-clause-lawful g c =
    let n = c.args.series in
    let f = c.args.self.now in
    let one = c.reserve.new.self in
    let room = c.make_place.new.self in
    let others = c.carry-others.result in
    let frame = c.in-Some.frame in
    let are : AreTrees room = subst AreTrees c.self-3.view_is c.self-3.invariant in
    let framed = frame_found f n c.self.inside.frames.items c.index.result.now frame (subst AreTrees c.self.view_is c.self.invariant) (ap (λ (t : Trees). t.frames) c.self.view_is) c.requires.known c.index.ensures c.in-Some.is in
    let roomed : IsRoomed f room n frame = is_roomed f one room n frame c.in_ok-reserve.ensures.same c.in_ok-reserve.ensures.places c.in_ok-make_place.ensures.same are c.requires.known framed in
    let item : c.get_mut-levels.result.now ≡ levels_at room n = c.get_mut-levels.ensures.item ∙ ap (λ (t : Trees). levels_at t n) c.self-3.view_is in
    subst (λ (m : ℕ). AreLawful m c.get_mut-levels.result.now) (sym c.group-group.ensures.number) (subst (AreLawful (leaves_at room.meta.series n)) (sym item) roomed.lawful)

pub write_group-requires-clause-room : goal.write_group-requires-clause-room
write_group-requires-clause-room g c k few =
    let n = c.args.series in
    let f = c.args.self.now in
    let one = c.reserve.new.self in
    let room = c.make_place.new.self in
    let others = c.carry-others.result in
    let frame = c.in-Some.frame in
    let are : AreTrees room = subst AreTrees c.self-3.view_is c.self-3.invariant in
    let framed = frame_found f n c.self.inside.frames.items c.index.result.now frame (subst AreTrees c.self.view_is c.self.invariant) (ap (λ (t : Trees). t.frames) c.self.view_is) c.requires.known c.index.ensures c.in-Some.is in
    let roomed : IsRoomed f room n frame = is_roomed f one room n frame c.in_ok-reserve.ensures.same c.in_ok-reserve.ensures.places c.in_ok-make_place.ensures.same are c.requires.known framed in
    let within : n < length one.meta.series = subst (λ (t : Trees). n < length t.meta.series) (sym c.in_ok-reserve.ensures.same) c.requires.known in
    let others_one = others_of c.series.result.now one.meta.series n others c.index-series-series.result (c.series.ensures ∙ ap (λ (t : Trees). t.meta.series) c.self-2.view_is) within c.carry-others.ensures.carry in
    let others_is : others ≡ carry_of (leaves_at room.meta.series n) = others_one ∙ ap (λ (t : Trees). carry_of (leaves_at t.meta.series n)) (sym c.in_ok-make_place.ensures.same) in
    let item : c.get_mut-levels.result.now ≡ levels_at room n = c.get_mut-levels.ensures.item ∙ ap (λ (t : Trees). levels_at t n) c.self-3.view_is in
    subst (λ (v : Lists). HasRoom v k) (sym item) (roomed.room_for k (omega (arith, few, c.group-group.ensures.others, others_is)))

pub invariant_of-self : goal.invariant_of-self
invariant_of-self g c =
    let n = c.args.series in
    let f = c.args.self.now in
    let one = c.reserve.new.self in
    let room = c.make_place.new.self in
    let others = c.carry-others.result in
    let frame = c.in-Some.frame in
    let are : AreTrees room = subst AreTrees c.self-3.view_is c.self-3.invariant in
    let framed = frame_found f n c.self.inside.frames.items c.index.result.now frame (subst AreTrees c.self.view_is c.self.invariant) (ap (λ (t : Trees). t.frames) c.self.view_is) c.requires.known c.index.ensures c.in-Some.is in
    let roomed : IsRoomed f room n frame = is_roomed f one room n frame c.in_ok-reserve.ensures.same c.in_ok-reserve.ensures.places c.in_ok-make_place.ensures.same are c.requires.known framed in
    let waits : AreLawful (leaves_at room.meta.series n) c.write_group.new.levels = subst (λ (m : ℕ). AreLawful m c.write_group.new.levels) c.group-group.ensures.number c.write_group.ensures.lawful in
    subst (λ (t : Trees). AreTrees (record t { levels = set t.levels n c.write_group.new.levels })) (sym c.self-3.view_is) (trees_set room n c.write_group.new.levels are waits)

pub enter-requires-clause-others : goal.enter-requires-clause-others
enter-requires-clause-others g c =
    let n = c.args.series in
    let f = c.args.self.now in
    let one = c.reserve.new.self in
    let room = c.make_place.new.self in
    let others = c.carry-others.result in
    let frame = c.in-Some.frame in
    let are : AreTrees room = subst AreTrees c.self-3.view_is c.self-3.invariant in
    let framed = frame_found f n c.self.inside.frames.items c.index.result.now frame (subst AreTrees c.self.view_is c.self.invariant) (ap (λ (t : Trees). t.frames) c.self.view_is) c.requires.known c.index.ensures c.in-Some.is in
    let roomed : IsRoomed f room n frame = is_roomed f one room n frame c.in_ok-reserve.ensures.same c.in_ok-reserve.ensures.places c.in_ok-make_place.ensures.same are c.requires.known framed in
    let within : n < length one.meta.series = subst (λ (t : Trees). n < length t.meta.series) (sym c.in_ok-reserve.ensures.same) c.requires.known in
    let others_one = others_of c.series.result.now one.meta.series n others c.index-series-series.result (c.series.ensures ∙ ap (λ (t : Trees). t.meta.series) c.self-2.view_is) within c.carry-others.ensures.carry in
    let others_is : others ≡ carry_of (leaves_at room.meta.series n) = others_one ∙ ap (λ (t : Trees). carry_of (leaves_at t.meta.series n)) (sym c.in_ok-make_place.ensures.same) in
    subst (λ (t : Trees). others ≡ carry_of (leaves_at t.meta.series n)) (sym c.self-3.view_is) others_is

pub enter-requires-clause-place : goal.enter-requires-clause-place
enter-requires-clause-place g c =
    let n = c.args.series in
    let f = c.args.self.now in
    let one = c.reserve.new.self in
    let room = c.make_place.new.self in
    let others = c.carry-others.result in
    let frame = c.in-Some.frame in
    let are : AreTrees room = subst AreTrees c.self-3.view_is c.self-3.invariant in
    let framed = frame_found f n c.self.inside.frames.items c.index.result.now frame (subst AreTrees c.self.view_is c.self.invariant) (ap (λ (t : Trees). t.frames) c.self.view_is) c.requires.known c.index.ensures c.in-Some.is in
    let roomed : IsRoomed f room n frame = is_roomed f one room n frame c.in_ok-reserve.ensures.same c.in_ok-reserve.ensures.places c.in_ok-make_place.ensures.same are c.requires.known framed in
    let within : n < length one.meta.series = subst (λ (t : Trees). n < length t.meta.series) (sym c.in_ok-reserve.ensures.same) c.requires.known in
    let others_one = others_of c.series.result.now one.meta.series n others c.index-series-series.result (c.series.ensures ∙ ap (λ (t : Trees). t.meta.series) c.self-2.view_is) within c.carry-others.ensures.carry in
    let others_is : others ≡ carry_of (leaves_at room.meta.series n) = others_one ∙ ap (λ (t : Trees). carry_of (leaves_at t.meta.series n)) (sym c.in_ok-make_place.ensures.same) in
    let item : c.get_mut-levels.result.now ≡ levels_at room n = c.get_mut-levels.ensures.item ∙ ap (λ (t : Trees). levels_at t n) c.self-3.view_is in
    let below : c.write_group.new.levels ≡ emptied (levels_at room n) others = c.in-Ok.ensures.emptied ∙ ap₂ emptied item c.group-group.ensures.others in
    let above : c.in-Ok.above ≡ raised (levels_at room n) c.group-group.result.leaf others = c.in-Ok.ensures.raised ∙ ap₂ (λ (v : Lists) (k : ℕ). raised v c.group-group.result.leaf k) item c.group-group.ensures.others in
    subst (λ (t : Trees). HasRoom (levels_at (record t { levels = set t.levels n c.write_group.new.levels }) n) others) (sym c.self-3.view_is)
    (enter_place room n others c.write_group.new.levels roomed.long below (roomed.room_for others (omega (arith, others_is))))

pub enter-requires-clause-lawful : goal.enter-requires-clause-lawful
enter-requires-clause-lawful g c =
    let n = c.args.series in
    let f = c.args.self.now in
    let one = c.reserve.new.self in
    let room = c.make_place.new.self in
    let others = c.carry-others.result in
    let frame = c.in-Some.frame in
    let are : AreTrees room = subst AreTrees c.self-3.view_is c.self-3.invariant in
    let framed = frame_found f n c.self.inside.frames.items c.index.result.now frame (subst AreTrees c.self.view_is c.self.invariant) (ap (λ (t : Trees). t.frames) c.self.view_is) c.requires.known c.index.ensures c.in-Some.is in
    let roomed : IsRoomed f room n frame = is_roomed f one room n frame c.in_ok-reserve.ensures.same c.in_ok-reserve.ensures.places c.in_ok-make_place.ensures.same are c.requires.known framed in
    let within : n < length one.meta.series = subst (λ (t : Trees). n < length t.meta.series) (sym c.in_ok-reserve.ensures.same) c.requires.known in
    let others_one = others_of c.series.result.now one.meta.series n others c.index-series-series.result (c.series.ensures ∙ ap (λ (t : Trees). t.meta.series) c.self-2.view_is) within c.carry-others.ensures.carry in
    let others_is : others ≡ carry_of (leaves_at room.meta.series n) = others_one ∙ ap (λ (t : Trees). carry_of (leaves_at t.meta.series n)) (sym c.in_ok-make_place.ensures.same) in
    let item : c.get_mut-levels.result.now ≡ levels_at room n = c.get_mut-levels.ensures.item ∙ ap (λ (t : Trees). levels_at t n) c.self-3.view_is in
    let below : c.write_group.new.levels ≡ emptied (levels_at room n) others = c.in-Ok.ensures.emptied ∙ ap₂ emptied item c.group-group.ensures.others in
    let above : c.in-Ok.above ≡ raised (levels_at room n) c.group-group.result.leaf others = c.in-Ok.ensures.raised ∙ ap₂ (λ (v : Lists) (k : ℕ). raised v c.group-group.result.leaf k) item c.group-group.ensures.others in
    subst
    (λ (t : Trees). AreLawful (leaves_at t.meta.series n + 1)
    (with_pending (levels_at (record t { levels = set t.levels n c.write_group.new.levels }) n) others (pending_at (levels_at (record t { levels = set t.levels n c.write_group.new.levels }) n) others ++ c.in-Ok.above ∷ [])))
    (sym c.self-3.view_is)
    (enter_lawful room n others c.group-group.result.leaf c.in-Ok.above c.write_group.new.levels are roomed.within roomed.long roomed.lawful roomed.room_for c.group-group.ensures.tally c.in_ok-make_place.ensures.room others_is below above)

pub invariant_of-self-in-Err : goal.invariant_of-self-in-Err
invariant_of-self-in-Err g c =
    let n = c.args.series in
    let f = c.args.self.now in
    let one = c.reserve.new.self in
    let room = c.make_place.new.self in
    let others = c.carry-others.result in
    let frame = c.in-Some.frame in
    let are : AreTrees room = subst AreTrees c.self-3.view_is c.self-3.invariant in
    let framed = frame_found f n c.self.inside.frames.items c.index.result.now frame (subst AreTrees c.self.view_is c.self.invariant) (ap (λ (t : Trees). t.frames) c.self.view_is) c.requires.known c.index.ensures c.in-Some.is in
    let roomed : IsRoomed f room n frame = is_roomed f one room n frame c.in_ok-reserve.ensures.same c.in_ok-reserve.ensures.places c.in_ok-make_place.ensures.same are c.requires.known framed in
    let waits : AreLawful (leaves_at room.meta.series n) c.write_group.new.levels = subst (λ (m : ℕ). AreLawful m c.write_group.new.levels) c.group-group.ensures.number c.write_group.ensures.lawful in
    subst (λ (t : Trees). AreTrees (record t { levels = set t.levels n c.write_group.new.levels })) (sym c.self-3.view_is) (trees_set room n c.write_group.new.levels are waits)

pub returns-in-Ok-clause-counts : goal.returns-in-Ok-clause-counts
returns-in-Ok-clause-counts g c m other =
    let n = c.args.series in
    let f = c.args.self.now in
    let one = c.reserve.new.self in
    let room = c.make_place.new.self in
    let others = c.carry-others.result in
    let frame = c.in-Some.frame in
    let are : AreTrees room = subst AreTrees c.self-3.view_is c.self-3.invariant in
    let framed = frame_found f n c.self.inside.frames.items c.index.result.now frame (subst AreTrees c.self.view_is c.self.invariant) (ap (λ (t : Trees). t.frames) c.self.view_is) c.requires.known c.index.ensures c.in-Some.is in
    let roomed : IsRoomed f room n frame = is_roomed f one room n frame c.in_ok-reserve.ensures.same c.in_ok-reserve.ensures.places c.in_ok-make_place.ensures.same are c.requires.known framed in
    let within : n < length one.meta.series = subst (λ (t : Trees). n < length t.meta.series) (sym c.in_ok-reserve.ensures.same) c.requires.known in
    let others_one = others_of c.series.result.now one.meta.series n others c.index-series-series.result (c.series.ensures ∙ ap (λ (t : Trees). t.meta.series) c.self-2.view_is) within c.carry-others.ensures.carry in
    let others_is : others ≡ carry_of (leaves_at room.meta.series n) = others_one ∙ ap (λ (t : Trees). carry_of (leaves_at t.meta.series n)) (sym c.in_ok-make_place.ensures.same) in
    let item : c.get_mut-levels.result.now ≡ levels_at room n = c.get_mut-levels.ensures.item ∙ ap (λ (t : Trees). levels_at t n) c.self-3.view_is in
    let below : c.write_group.new.levels ≡ emptied (levels_at room n) others = c.in-Ok.ensures.emptied ∙ ap₂ emptied item c.group-group.ensures.others in
    let above : c.in-Ok.above ≡ raised (levels_at room n) c.group-group.result.leaf others = c.in-Ok.ensures.raised ∙ ap₂ (λ (v : Lists) (k : ℕ). raised v c.group-group.result.leaf k) item c.group-group.ensures.others in
    let after : IsAfter room c.enter.new.self n others frame = is_after _ room c.enter.new.self n others frame c.group-group.result.leaf c.in-Ok.above c.write_group.new.levels c.self-3.view_is roomed.long others_is c.group-group.ensures.leaf below above
    c.enter.ensures.meta c.enter.ensures.pool c.enter.ensures.frames c.enter.ensures.levels c.enter.ensures.valid c.enter.ensures.check c.enter.ensures.since in
    ap (λ (d : Content). leaves_at d.series m) after.meta ∙ leaves_others room.meta.series n m _ _ other ∙ ap (λ (all : List SeriesMeta). leaves_at all m) roomed.series

pub returns-in-Ok-clause-ready : goal.returns-in-Ok-clause-ready
returns-in-Ok-clause-ready g c =
    let n = c.args.series in
    let f = c.args.self.now in
    let one = c.reserve.new.self in
    let room = c.make_place.new.self in
    let others = c.carry-others.result in
    let frame = c.in-Some.frame in
    let are : AreTrees room = subst AreTrees c.self-3.view_is c.self-3.invariant in
    let framed = frame_found f n c.self.inside.frames.items c.index.result.now frame (subst AreTrees c.self.view_is c.self.invariant) (ap (λ (t : Trees). t.frames) c.self.view_is) c.requires.known c.index.ensures c.in-Some.is in
    let roomed : IsRoomed f room n frame = is_roomed f one room n frame c.in_ok-reserve.ensures.same c.in_ok-reserve.ensures.places c.in_ok-make_place.ensures.same are c.requires.known framed in
    let within : n < length one.meta.series = subst (λ (t : Trees). n < length t.meta.series) (sym c.in_ok-reserve.ensures.same) c.requires.known in
    let others_one = others_of c.series.result.now one.meta.series n others c.index-series-series.result (c.series.ensures ∙ ap (λ (t : Trees). t.meta.series) c.self-2.view_is) within c.carry-others.ensures.carry in
    let others_is : others ≡ carry_of (leaves_at room.meta.series n) = others_one ∙ ap (λ (t : Trees). carry_of (leaves_at t.meta.series n)) (sym c.in_ok-make_place.ensures.same) in
    let item : c.get_mut-levels.result.now ≡ levels_at room n = c.get_mut-levels.ensures.item ∙ ap (λ (t : Trees). levels_at t n) c.self-3.view_is in
    let below : c.write_group.new.levels ≡ emptied (levels_at room n) others = c.in-Ok.ensures.emptied ∙ ap₂ emptied item c.group-group.ensures.others in
    let above : c.in-Ok.above ≡ raised (levels_at room n) c.group-group.result.leaf others = c.in-Ok.ensures.raised ∙ ap₂ (λ (v : Lists) (k : ℕ). raised v c.group-group.result.leaf k) item c.group-group.ensures.others in
    let after : IsAfter room c.enter.new.self n others frame = is_after _ room c.enter.new.self n others frame c.group-group.result.leaf c.in-Ok.above c.write_group.new.levels c.self-3.view_is roomed.long others_is c.group-group.ensures.leaf below above
    c.enter.ensures.meta c.enter.ensures.pool c.enter.ensures.frames c.enter.ensures.levels c.enter.ensures.valid c.enter.ensures.check c.enter.ensures.since in
    let old = g.D.Outside.state c.make_place.new.disk in
    let new = g.D.Outside.state c.write_group.new.disk in
    let volume : 1 ≤ c.newest_file-file.result = omega (arith, c.newest_file-file.ensures) in
    ready_same g.D.Outside.tells room c.enter.new.self old new after.check (ap (λ (m : Content). m.ordinals.volumes) after.meta) (ap (λ (m : Content). m.ordinals.blocks) after.meta) c.write_group.ensures.sizes
    (λ told. fits_outside room.check.gate c.newest_file-file.result c.n-index.result (1 + c.group-group.result.others) c.group-group.result c.get_mut-levels.result.now c.leaf_block-block.result old new volume (c.in-Ok.ensures.files told)
    (c.write_group.ensures.moments told))
    c.in_ok-make_place.ensures.ready

pub returns-in-Ok-clause-names : goal.returns-in-Ok-clause-names
returns-in-Ok-clause-names g c =
    let n = c.args.series in
    let f = c.args.self.now in
    let one = c.reserve.new.self in
    let room = c.make_place.new.self in
    let others = c.carry-others.result in
    let frame = c.in-Some.frame in
    let are : AreTrees room = subst AreTrees c.self-3.view_is c.self-3.invariant in
    let framed = frame_found f n c.self.inside.frames.items c.index.result.now frame (subst AreTrees c.self.view_is c.self.invariant) (ap (λ (t : Trees). t.frames) c.self.view_is) c.requires.known c.index.ensures c.in-Some.is in
    let roomed : IsRoomed f room n frame = is_roomed f one room n frame c.in_ok-reserve.ensures.same c.in_ok-reserve.ensures.places c.in_ok-make_place.ensures.same are c.requires.known framed in
    let within : n < length one.meta.series = subst (λ (t : Trees). n < length t.meta.series) (sym c.in_ok-reserve.ensures.same) c.requires.known in
    let others_one = others_of c.series.result.now one.meta.series n others c.index-series-series.result (c.series.ensures ∙ ap (λ (t : Trees). t.meta.series) c.self-2.view_is) within c.carry-others.ensures.carry in
    let others_is : others ≡ carry_of (leaves_at room.meta.series n) = others_one ∙ ap (λ (t : Trees). carry_of (leaves_at t.meta.series n)) (sym c.in_ok-make_place.ensures.same) in
    let item : c.get_mut-levels.result.now ≡ levels_at room n = c.get_mut-levels.ensures.item ∙ ap (λ (t : Trees). levels_at t n) c.self-3.view_is in
    let below : c.write_group.new.levels ≡ emptied (levels_at room n) others = c.in-Ok.ensures.emptied ∙ ap₂ emptied item c.group-group.ensures.others in
    let above : c.in-Ok.above ≡ raised (levels_at room n) c.group-group.result.leaf others = c.in-Ok.ensures.raised ∙ ap₂ (λ (v : Lists) (k : ℕ). raised v c.group-group.result.leaf k) item c.group-group.ensures.others in
    let after : IsAfter room c.enter.new.self n others frame = is_after _ room c.enter.new.self n others frame c.group-group.result.leaf c.in-Ok.above c.write_group.new.levels c.self-3.view_is roomed.long others_is c.group-group.ensures.leaf below above
    c.enter.ensures.meta c.enter.ensures.pool c.enter.ensures.frames c.enter.ensures.levels c.enter.ensures.valid c.enter.ensures.check c.enter.ensures.since in
    ap (λ (m : Content). names_of m.series) after.meta ∙ names_closed room.meta.series n _ _ ∙ ap names_of roomed.series

pub returns-in-Ok-clause-becomes : goal.returns-in-Ok-clause-becomes
returns-in-Ok-clause-becomes g c told found was =
    let n = c.args.series in
    let f = c.args.self.now in
    let one = c.reserve.new.self in
    let room = c.make_place.new.self in
    let others = c.carry-others.result in
    let frame = c.in-Some.frame in
    let are : AreTrees room = subst AreTrees c.self-3.view_is c.self-3.invariant in
    let framed = frame_found f n c.self.inside.frames.items c.index.result.now frame (subst AreTrees c.self.view_is c.self.invariant) (ap (λ (t : Trees). t.frames) c.self.view_is) c.requires.known c.index.ensures c.in-Some.is in
    let roomed : IsRoomed f room n frame = is_roomed f one room n frame c.in_ok-reserve.ensures.same c.in_ok-reserve.ensures.places c.in_ok-make_place.ensures.same are c.requires.known framed in
    let within : n < length one.meta.series = subst (λ (t : Trees). n < length t.meta.series) (sym c.in_ok-reserve.ensures.same) c.requires.known in
    let others_one = others_of c.series.result.now one.meta.series n others c.index-series-series.result (c.series.ensures ∙ ap (λ (t : Trees). t.meta.series) c.self-2.view_is) within c.carry-others.ensures.carry in
    let others_is : others ≡ carry_of (leaves_at room.meta.series n) = others_one ∙ ap (λ (t : Trees). carry_of (leaves_at t.meta.series n)) (sym c.in_ok-make_place.ensures.same) in
    let item : c.get_mut-levels.result.now ≡ levels_at room n = c.get_mut-levels.ensures.item ∙ ap (λ (t : Trees). levels_at t n) c.self-3.view_is in
    let below : c.write_group.new.levels ≡ emptied (levels_at room n) others = c.in-Ok.ensures.emptied ∙ ap₂ emptied item c.group-group.ensures.others in
    let above : c.in-Ok.above ≡ raised (levels_at room n) c.group-group.result.leaf others = c.in-Ok.ensures.raised ∙ ap₂ (λ (v : Lists) (k : ℕ). raised v c.group-group.result.leaf k) item c.group-group.ensures.others in
    let after : IsAfter room c.enter.new.self n others frame = is_after _ room c.enter.new.self n others frame c.group-group.result.leaf c.in-Ok.above c.write_group.new.levels c.self-3.view_is roomed.long others_is c.group-group.ensures.leaf below above
    c.enter.ensures.meta c.enter.ensures.pool c.enter.ensures.frames c.enter.ensures.levels c.enter.ensures.valid c.enter.ensures.check c.enter.ensures.since in
    let index_is = c.n-index.ensures ∙ ap newest_fill (c.volumes.ensures ∙ ap (λ (t : Trees). t.meta.ordinals) c.self-3.view_is) in
    let m : Content = room.meta in
    let ps = leaf_of room.pool.used frame.0 in
    let made = group_is c.group-group.result m n ps c.group-group.ensures.series c.group-group.ensures.number c.group-group.ensures.elders c.group-group.ensures.leaf (c.group-group.ensures.others ∙ others_is) in
    let start = g.D.Outside.state c.args.disk.now in
    let mid = g.D.Outside.state c.make_place.new.disk in
    let host = g.D.Outside.state c.write_group.new.disk in
    let group = group_here m n c.newest_file-file.result c.n-index.result c.group-group.result ps c.get_mut-levels.result.now c.leaf_block-block.result mid.files host.files made c.newest_file-file.ensures index_is (c.in-Ok.ensures.files told) in
    let fits : newest_fill m.ordinals + (1 + carry_of (leaves_at m.series n)) ≤ m.ordinals.blocks = omega (arith, others_is, c.in_ok-make_place.ensures.room) in
    let last = last_ts_from 0 ps in
    let entered = origins_entered m n ps are.rules_are fits c.leaf_block-block.result mid host c.get_mut-levels.result.now last roomed.within c.leaf_block-block.ensures group in
    let closed : KeepsOrigins mid host m (closed_in (record m { ordinals = filled m.ordinals (1 + others) }) n last (spot m.ordinals)) =
    subst (λ (k : ℕ). KeepsOrigins mid host m (closed_in (record m { ordinals = filled m.ordinals (1 + k) }) n last (spot m.ordinals))) (sym others_is) entered in
    let before : KeepsOrigins start mid f.meta m = subst (λ (t : Trees). KeepsOrigins start mid t.meta m) c.in_ok-reserve.ensures.same (c.in_ok-make_place.ensures.becomes told) in
    subst (KeepsOrigins mid host m) (sym after.meta) closed found (before found was)

pub returns-in-Ok-clause-fewer : goal.returns-in-Ok-clause-fewer
returns-in-Ok-clause-fewer g c =
    let n = c.args.series in
    let f = c.args.self.now in
    let one = c.reserve.new.self in
    let room = c.make_place.new.self in
    let others = c.carry-others.result in
    let frame = c.in-Some.frame in
    let are : AreTrees room = subst AreTrees c.self-3.view_is c.self-3.invariant in
    let framed = frame_found f n c.self.inside.frames.items c.index.result.now frame (subst AreTrees c.self.view_is c.self.invariant) (ap (λ (t : Trees). t.frames) c.self.view_is) c.requires.known c.index.ensures c.in-Some.is in
    let roomed : IsRoomed f room n frame = is_roomed f one room n frame c.in_ok-reserve.ensures.same c.in_ok-reserve.ensures.places c.in_ok-make_place.ensures.same are c.requires.known framed in
    let within : n < length one.meta.series = subst (λ (t : Trees). n < length t.meta.series) (sym c.in_ok-reserve.ensures.same) c.requires.known in
    let others_one = others_of c.series.result.now one.meta.series n others c.index-series-series.result (c.series.ensures ∙ ap (λ (t : Trees). t.meta.series) c.self-2.view_is) within c.carry-others.ensures.carry in
    let others_is : others ≡ carry_of (leaves_at room.meta.series n) = others_one ∙ ap (λ (t : Trees). carry_of (leaves_at t.meta.series n)) (sym c.in_ok-make_place.ensures.same) in
    let item : c.get_mut-levels.result.now ≡ levels_at room n = c.get_mut-levels.ensures.item ∙ ap (λ (t : Trees). levels_at t n) c.self-3.view_is in
    let below : c.write_group.new.levels ≡ emptied (levels_at room n) others = c.in-Ok.ensures.emptied ∙ ap₂ emptied item c.group-group.ensures.others in
    let above : c.in-Ok.above ≡ raised (levels_at room n) c.group-group.result.leaf others = c.in-Ok.ensures.raised ∙ ap₂ (λ (v : Lists) (k : ℕ). raised v c.group-group.result.leaf k) item c.group-group.ensures.others in
    let after : IsAfter room c.enter.new.self n others frame = is_after _ room c.enter.new.self n others frame c.group-group.result.leaf c.in-Ok.above c.write_group.new.levels c.self-3.view_is roomed.long others_is c.group-group.ensures.leaf below above
    c.enter.ensures.meta c.enter.ensures.pool c.enter.ensures.frames c.enter.ensures.levels c.enter.ensures.valid c.enter.ensures.check c.enter.ensures.since in
    ap (λ (p : Frames). suc (length p.used)) after.pool ∙ fewer_used room.pool.count room.pool.used frame.0 are.pooled.frames_are.numbered (are.pooled.framed n frame roomed.framed).0 ∙ ap (λ (p : Frames). length p.used) roomed.pool

pub returns-in-Ok-clause-last : goal.returns-in-Ok-clause-last
returns-in-Ok-clause-last g c m =
    let n = c.args.series in
    let f = c.args.self.now in
    let one = c.reserve.new.self in
    let room = c.make_place.new.self in
    let others = c.carry-others.result in
    let frame = c.in-Some.frame in
    let are : AreTrees room = subst AreTrees c.self-3.view_is c.self-3.invariant in
    let framed = frame_found f n c.self.inside.frames.items c.index.result.now frame (subst AreTrees c.self.view_is c.self.invariant) (ap (λ (t : Trees). t.frames) c.self.view_is) c.requires.known c.index.ensures c.in-Some.is in
    let roomed : IsRoomed f room n frame = is_roomed f one room n frame c.in_ok-reserve.ensures.same c.in_ok-reserve.ensures.places c.in_ok-make_place.ensures.same are c.requires.known framed in
    let within : n < length one.meta.series = subst (λ (t : Trees). n < length t.meta.series) (sym c.in_ok-reserve.ensures.same) c.requires.known in
    let others_one = others_of c.series.result.now one.meta.series n others c.index-series-series.result (c.series.ensures ∙ ap (λ (t : Trees). t.meta.series) c.self-2.view_is) within c.carry-others.ensures.carry in
    let others_is : others ≡ carry_of (leaves_at room.meta.series n) = others_one ∙ ap (λ (t : Trees). carry_of (leaves_at t.meta.series n)) (sym c.in_ok-make_place.ensures.same) in
    let item : c.get_mut-levels.result.now ≡ levels_at room n = c.get_mut-levels.ensures.item ∙ ap (λ (t : Trees). levels_at t n) c.self-3.view_is in
    let below : c.write_group.new.levels ≡ emptied (levels_at room n) others = c.in-Ok.ensures.emptied ∙ ap₂ emptied item c.group-group.ensures.others in
    let above : c.in-Ok.above ≡ raised (levels_at room n) c.group-group.result.leaf others = c.in-Ok.ensures.raised ∙ ap₂ (λ (v : Lists) (k : ℕ). raised v c.group-group.result.leaf k) item c.group-group.ensures.others in
    let after : IsAfter room c.enter.new.self n others frame = is_after _ room c.enter.new.self n others frame c.group-group.result.leaf c.in-Ok.above c.write_group.new.levels c.self-3.view_is roomed.long others_is c.group-group.ensures.leaf below above
    c.enter.ensures.meta c.enter.ensures.pool c.enter.ensures.frames c.enter.ensures.levels c.enter.ensures.valid c.enter.ensures.check c.enter.ensures.since in
    last_closed room n frame _ are.pooled roomed.within roomed.framed c.enter.new.self (ap (λ (d : Content). d.series) after.meta) after.pool after.frames m
    ∙ ap (λ (t : Trees). last_known t m) c.in_ok-make_place.ensures.same ∙ ap (λ (t : Trees). last_known t m) c.in_ok-reserve.ensures.same

pub returns-in-Ok-clause-after : goal.returns-in-Ok-clause-after
returns-in-Ok-clause-after g c told w holds =
    let n = c.args.series in
    let f = c.args.self.now in
    let one = c.reserve.new.self in
    let room = c.make_place.new.self in
    let others = c.carry-others.result in
    let frame = c.in-Some.frame in
    let are : AreTrees room = subst AreTrees c.self-3.view_is c.self-3.invariant in
    let framed = frame_found f n c.self.inside.frames.items c.index.result.now frame (subst AreTrees c.self.view_is c.self.invariant) (ap (λ (t : Trees). t.frames) c.self.view_is) c.requires.known c.index.ensures c.in-Some.is in
    let roomed : IsRoomed f room n frame = is_roomed f one room n frame c.in_ok-reserve.ensures.same c.in_ok-reserve.ensures.places c.in_ok-make_place.ensures.same are c.requires.known framed in
    let within : n < length one.meta.series = subst (λ (t : Trees). n < length t.meta.series) (sym c.in_ok-reserve.ensures.same) c.requires.known in
    let others_one = others_of c.series.result.now one.meta.series n others c.index-series-series.result (c.series.ensures ∙ ap (λ (t : Trees). t.meta.series) c.self-2.view_is) within c.carry-others.ensures.carry in
    let others_is : others ≡ carry_of (leaves_at room.meta.series n) = others_one ∙ ap (λ (t : Trees). carry_of (leaves_at t.meta.series n)) (sym c.in_ok-make_place.ensures.same) in
    let item : c.get_mut-levels.result.now ≡ levels_at room n = c.get_mut-levels.ensures.item ∙ ap (λ (t : Trees). levels_at t n) c.self-3.view_is in
    let below : c.write_group.new.levels ≡ emptied (levels_at room n) others = c.in-Ok.ensures.emptied ∙ ap₂ emptied item c.group-group.ensures.others in
    let above : c.in-Ok.above ≡ raised (levels_at room n) c.group-group.result.leaf others = c.in-Ok.ensures.raised ∙ ap₂ (λ (v : Lists) (k : ℕ). raised v c.group-group.result.leaf k) item c.group-group.ensures.others in
    let after : IsAfter room c.enter.new.self n others frame = is_after _ room c.enter.new.self n others frame c.group-group.result.leaf c.in-Ok.above c.write_group.new.levels c.self-3.view_is roomed.long others_is c.group-group.ensures.leaf below above
    c.enter.ensures.meta c.enter.ensures.pool c.enter.ensures.frames c.enter.ensures.levels c.enter.ensures.valid c.enter.ensures.check c.enter.ensures.since in
    let index_is = c.n-index.ensures ∙ ap newest_fill (c.volumes.ensures ∙ ap (λ (t : Trees). t.meta.ordinals) c.self-3.view_is) in
    let made = group_is c.group-group.result room.meta n (leaf_of room.pool.used frame.0) c.group-group.ensures.series c.group-group.ensures.number c.group-group.ensures.elders c.group-group.ensures.leaf (c.group-group.ensures.others ∙ others_is) in
    let start = g.D.Outside.state c.args.disk.now in
    let mid = g.D.Outside.state c.make_place.new.disk in
    let held : Holds w one start = holds_placed w f one start (places_next f one n c.in_ok-reserve.ensures.same) holds in
    let others_old : others ≡ carry_of (leaves_at f.meta.series n) = others_is ∙ ap (λ (all : List SeriesMeta). carry_of (leaves_at all n)) roomed.series in
    let host = g.D.Outside.state c.write_group.new.disk in
    let group = subst (λ (v : Lists). IsGroup c.newest_file-file.result c.n-index.result c.group-group.result v c.leaf_block-block.result mid.files host.files) item (c.in-Ok.ensures.files told) in
    closed_holds w f room n others c.newest_file-file.result c.n-index.result c.group-group.result frame start mid holds are roomed.series c.requires.known roomed.framed others_old made c.newest_file-file.ensures index_is c.in_ok-make_place.ensures.room
    (c.in_ok-make_place.ensures.after told w held) c.enter.new.self c.leaf_block-block.result host c.leaf_block-block.ensures group (c.write_group.ensures.moments told) after.long after.meta after.pool after.frames after.levels after.check after.since

pub returns-in-Ok-clause-passes : goal.returns-in-Ok-clause-passes
returns-in-Ok-clause-passes g c told =
    disk_goes_on (c.make_place.ensures.passes told) (c.write_group.ensures.passes told) (λ disk left. tt)

pub returns-in-Ok-clause-moments : goal.returns-in-Ok-clause-moments
returns-in-Ok-clause-moments g c told w holds =
    let n = c.args.series in
    let f = c.args.self.now in
    let one = c.reserve.new.self in
    let room = c.make_place.new.self in
    let others = c.carry-others.result in
    let frame = c.in-Some.frame in
    let are : AreTrees room = subst AreTrees c.self-3.view_is c.self-3.invariant in
    let framed = frame_found f n c.self.inside.frames.items c.index.result.now frame (subst AreTrees c.self.view_is c.self.invariant) (ap (λ (t : Trees). t.frames) c.self.view_is) c.requires.known c.index.ensures c.in-Some.is in
    let roomed : IsRoomed f room n frame = is_roomed f one room n frame c.in_ok-reserve.ensures.same c.in_ok-reserve.ensures.places c.in_ok-make_place.ensures.same are c.requires.known framed in
    let within : n < length one.meta.series = subst (λ (t : Trees). n < length t.meta.series) (sym c.in_ok-reserve.ensures.same) c.requires.known in
    let others_one = others_of c.series.result.now one.meta.series n others c.index-series-series.result (c.series.ensures ∙ ap (λ (t : Trees). t.meta.series) c.self-2.view_is) within c.carry-others.ensures.carry in
    let others_is : others ≡ carry_of (leaves_at room.meta.series n) = others_one ∙ ap (λ (t : Trees). carry_of (leaves_at t.meta.series n)) (sym c.in_ok-make_place.ensures.same) in
    let index_is = c.n-index.ensures ∙ ap newest_fill (c.volumes.ensures ∙ ap (λ (t : Trees). t.meta.ordinals) c.self-3.view_is) in
    let made = group_is c.group-group.result room.meta n (leaf_of room.pool.used frame.0) c.group-group.ensures.series c.group-group.ensures.number c.group-group.ensures.elders c.group-group.ensures.leaf (c.group-group.ensures.others ∙ others_is) in
    let start = g.D.Outside.state c.args.disk.now in
    let mid = g.D.Outside.state c.make_place.new.disk in
    let held : Holds w one start = holds_placed w f one start (places_next f one n c.in_ok-reserve.ensures.same) holds in
    let others_old : others ≡ carry_of (leaves_at f.meta.series n) = others_is ∙ ap (λ (all : List SeriesMeta). carry_of (leaves_at all n)) roomed.series in
    closed_passes w f room n others c.newest_file-file.result c.n-index.result c.group-group.result frame start mid holds are roomed.series c.requires.known roomed.framed others_old made c.newest_file-file.ensures index_is c.in_ok-make_place.ensures.room
    (c.in_ok-make_place.ensures.after told w held) (g.D.Outside.state c.write_group.new.disk) (c.make_place.ensures.moments told w held) (c.write_group.ensures.moments told)

pub returns-in-Err-clause-passes : goal.returns-in-Err-clause-passes
returns-in-Err-clause-passes g c told =
    disk_goes_on (c.make_place.ensures.passes told) (c.write_group.ensures.passes told) (λ disk left. tt)

pub returns-in-Err-clause-moments : goal.returns-in-Err-clause-moments
returns-in-Err-clause-moments g c told w holds =
    let n = c.args.series in
    let f = c.args.self.now in
    let one = c.reserve.new.self in
    let room = c.make_place.new.self in
    let others = c.carry-others.result in
    let frame = c.in-Some.frame in
    let are : AreTrees room = subst AreTrees c.self-3.view_is c.self-3.invariant in
    let framed = frame_found f n c.self.inside.frames.items c.index.result.now frame (subst AreTrees c.self.view_is c.self.invariant) (ap (λ (t : Trees). t.frames) c.self.view_is) c.requires.known c.index.ensures c.in-Some.is in
    let roomed : IsRoomed f room n frame = is_roomed f one room n frame c.in_ok-reserve.ensures.same c.in_ok-reserve.ensures.places c.in_ok-make_place.ensures.same are c.requires.known framed in
    let within : n < length one.meta.series = subst (λ (t : Trees). n < length t.meta.series) (sym c.in_ok-reserve.ensures.same) c.requires.known in
    let others_one = others_of c.series.result.now one.meta.series n others c.index-series-series.result (c.series.ensures ∙ ap (λ (t : Trees). t.meta.series) c.self-2.view_is) within c.carry-others.ensures.carry in
    let others_is : others ≡ carry_of (leaves_at room.meta.series n) = others_one ∙ ap (λ (t : Trees). carry_of (leaves_at t.meta.series n)) (sym c.in_ok-make_place.ensures.same) in
    let index_is = c.n-index.ensures ∙ ap newest_fill (c.volumes.ensures ∙ ap (λ (t : Trees). t.meta.ordinals) c.self-3.view_is) in
    let made = group_is c.group-group.result room.meta n (leaf_of room.pool.used frame.0) c.group-group.ensures.series c.group-group.ensures.number c.group-group.ensures.elders c.group-group.ensures.leaf (c.group-group.ensures.others ∙ others_is) in
    let start = g.D.Outside.state c.args.disk.now in
    let mid = g.D.Outside.state c.make_place.new.disk in
    let held : Holds w one start = holds_placed w f one start (places_next f one n c.in_ok-reserve.ensures.same) holds in
    let others_old : others ≡ carry_of (leaves_at f.meta.series n) = others_is ∙ ap (λ (all : List SeriesMeta). carry_of (leaves_at all n)) roomed.series in
    closed_passes w f room n others c.newest_file-file.result c.n-index.result c.group-group.result frame start mid holds are roomed.series c.requires.known roomed.framed others_old made c.newest_file-file.ensures index_is c.in_ok-make_place.ensures.room
    (c.in_ok-make_place.ensures.after told w held) (g.D.Outside.state c.write_group.new.disk) (c.make_place.ensures.moments told w held) (c.write_group.ensures.moments told)
