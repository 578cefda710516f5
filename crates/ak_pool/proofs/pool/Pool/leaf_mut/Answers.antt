use Rattle.std.proofs.Common.{◌≡◌, ◌<◌, ℕ, [], length, refl, sym, ap, ◌∙◌, subst, arith}
use Rattle.std.proofs.lemmas.List.{get_or_read, length-set}
use Rattle.std.proofs.Math.ListN.{set}
use Rattle.ak_pool.specs.Frames.{Frames, IsUsed, frames_of, leaf_of, with_leaf}
use Rattle.ak_pool.specs.Slots.{all_used}
use Rattle.ak_pool.specs.declared.slot.Slot.{Slot}
use Rattle.ak_pool.proofs.Kept.{within, seen_leaf, set_seen}
use Rattle.ak_pool.proofs.pool.Pool.leaf_mut.Goals as goal

pub index_mut-slot-requires : goal.index_mut-slot-requires
index_mut-slot-requires c =
    let below : c.args.f.0 < length c.self.inside.slots.items = within _ _ _ c.self.invariant (subst (λ (v : Frames). IsUsed v.used c.args.f.0) (sym c.self.view_is) c.requires) in
    omega (arith, below, c.self.inside.slots.ok)

pub returns : goal.returns
returns c =
    let slots = c.self.inside.slots.items in
    let used : IsUsed (all_used slots c.self.inside.chains) c.args.f.0 = subst (λ (v : Frames). IsUsed v.used c.args.f.0) (sym c.self.view_is) c.requires in
    let read = get_or_read slots c.args.f.0 c.index_mut-slot.result.now (within _ _ _ c.self.invariant used) c.index_mut-slot.ensures.value (record { series = 0; leaf = [] }) in (
      (
        refl,
        λ w.
            let slot : Slot = record { series = c.index_mut-slot.result.now.series; leaf = w } in
            let same = set_seen slots c.self.inside.chains c.args.f.0 w c.self.invariant used slot refl (ap (λ (s : Slot). s.series) read) in
            subst (λ (v : Frames). frames_of (length (set slots c.args.f.0 slot)) (all_used (set slots c.args.f.0 slot) c.self.inside.chains) ≡ frames_of v.count (with_leaf v.used c.args.f.0 w)) c.self.view_is
            (rw same (ap (λ (n : ℕ). frames_of n (with_leaf (all_used slots c.self.inside.chains) c.args.f.0 w)) (length-set slots c.args.f.0 slot))),
      ),
      record {
        value = subst (λ (v : Frames). c.index_mut-slot.result.now.leaf ≡ leaf_of v.used c.args.f.0) c.self.view_is (ap (λ (s : Slot). s.leaf) read ∙ seen_leaf _ _ _ c.self.invariant used);
        writes_back = tt;
      },
    )
