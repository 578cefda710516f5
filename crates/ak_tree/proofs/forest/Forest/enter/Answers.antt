use Rattle.std.proofs.Common.{◌≡◌, ◌∙◌, ℕ, ◌+◌, ◌^◌, ◌<◌, ◌≤◌, List, [], ◌∷◌, ◌++◌, get_or, slice_set, Some, None, sym, ap, ap₂, subst, arith}
use Rattle.ak_base.specs.Points.{last_ts_from}
use Rattle.ak_image.specs.Laid.{spot}
use Rattle.ak_levels.specs.Carries.{carry_of}
use Rattle.ak_meta.specs.Contents.{Content}
use Rattle.ak_meta.specs.Leaves.{closed_in, leaves_at}
use Rattle.ak_pool.specs.Frames.{Frames, frames_of, AreFrames, leaf_of, without}
use Rattle.ak_levels.proofs.Digits.{carry_most}
use Rattle.ak_levels.specs.Entries.{AreLawful}
use Rattle.ak_levels.specs.Pending.{Lists, no_lists, pending_at, with_pending}
use Rattle.ak_tree.specs.Standing.{Trees, trees, AreTrees, levels_at}
use Rattle.ak_tree.proofs.Entering.{meta_entered, trees_entered}
use Rattle.ak_volumes.specs.Ordinals.{Ordinals, newest_fill, filled}
use Rattle.ak_tree.proofs.forest.Forest.enter.Goals as goal

last_is : (c : goal.After-self-4-1) → c.last_of-last.result ≡ last_ts_from 0 (leaf_of c.self.inside.pool.used c.args.frame.0)
last_is c = c.last_of-last.ensures ∙ ap (last_ts_from 0) (c.points.ensures.points ∙ c.leaf.ensures)

meta_is : (c : goal.After-self-4-1) → c.closed.new.self ≡ meta_entered c.self.inside.meta c.args.series (leaf_of c.self.inside.pool.used c.args.frame.0) c.args.others
meta_is c =
    let n = c.args.series in
    let m : Content = c.self.inside.meta in
    let fill : c.fill.new.self ≡ filled m.ordinals (1 + c.args.others) = c.fill.ensures.filled ∙ ap (λ (o : Ordinals). filled o (1 + c.args.others)) c.volumes_mut.ensures.value in
    let at : c.spot-at.result.0 ≡ spot m.ordinals = c.spot-at.ensures ∙ ap (λ (t : Trees). spot t.meta.ordinals) (sym c.self.view_is) in
    c.closed.ensures
    ∙ ap (λ (o : Ordinals). closed_in (record m { ordinals = o }) n c.last_of-last.result c.spot-at.result.0) fill
    ∙ ap₂ (λ (last a : ℕ). closed_in (record m { ordinals = filled m.ordinals (1 + c.args.others) }) n last a) (last_is c) at

pub push-requires-clause-level : goal.push-requires-clause-level
push-requires-clause-level c = omega (arith, c.requires.others, carry_most (leaves_at c.args.self.now.meta.series c.args.series))

waits_is : (c : goal.After-self-4-1) → c.push.new.self ≡ with_pending (get_or c.self.inside.levels c.args.series no_lists) c.args.others (pending_at (get_or c.self.inside.levels c.args.series no_lists) c.args.others ++ c.args.above ∷ [])
waits_is c = c.push.ensures.pushed ∙ ap (λ (v : Lists). with_pending v c.args.others (pending_at v c.args.others ++ c.args.above ∷ [])) c.get_mut.ensures.item

pub invariant_of-self : goal.invariant_of-self
invariant_of-self c =
    let f : Trees = trees c.self.inside.meta c.self.inside.pool c.self.inside.frames.items c.self.inside.levels c.self.inside.check c.self.inside.since in
    let n = c.args.series in
    let is : get_or f.frames n None ≡ Some c.args.frame = subst (λ (t : Trees). get_or t.frames n None ≡ Some c.args.frame) (sym c.self.view_is) c.requires.framed in
    let top : c.args.others ≡ carry_of (leaves_at f.meta.series n) = subst (λ (t : Trees). c.args.others ≡ carry_of (leaves_at t.meta.series n)) (sym c.self.view_is) c.requires.others in
    let room : newest_fill f.meta.ordinals + (1 + c.args.others) ≤ f.meta.ordinals.blocks = subst (λ (t : Trees). newest_fill t.meta.ordinals + (1 + c.args.others) ≤ t.meta.ordinals.blocks) (sym c.self.view_is) c.requires.room in
    let waits : AreLawful (leaves_at f.meta.series n + 1) (with_pending (levels_at f n) c.args.others (pending_at (levels_at f n) c.args.others ++ c.args.above ∷ [])) =
    subst (λ (t : Trees). AreLawful (leaves_at t.meta.series n + 1) (with_pending (levels_at t n) c.args.others (pending_at (levels_at t n) c.args.others ++ c.args.above ∷ []))) (sym c.self.view_is) c.requires.lawful in
    let given : c.give.new.self ≡ frames_of f.pool.count (without f.pool.used c.args.frame.0) = c.give.ensures.given in
    let small : last_ts_from 0 (leaf_of f.pool.used c.args.frame.0) < 2 ^ 64 = omega (arith, last_is c, c.last_of-last.type_inv) in
    let levels : List Lists = slice_set f.levels n c.push.new.self in
    subst (λ (m : Content). AreTrees (trees m c.give.new.self (slice_set f.frames n None) levels f.check (f.since + 1))) (sym (meta_is c))
    (subst (λ (pool : Frames). AreTrees (trees (meta_entered f.meta n (leaf_of f.pool.used c.args.frame.0) c.args.others) pool (slice_set f.frames n None) levels f.check (f.since + 1))) (sym given)
    (trees_entered f n c.args.frame c.args.others c.push.new.self c.self.invariant is top room small (subst AreFrames given c.give.ensures.valid) (subst (AreLawful (leaves_at f.meta.series n + 1)) (sym (waits_is c)) waits)))
