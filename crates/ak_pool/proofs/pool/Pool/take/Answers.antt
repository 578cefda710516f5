use Rattle.std.proofs.Common.{◌≡◌, ℕ, ◌<◌, List, [], ◌∷◌, length, refl, sym, ap, ◌∙◌, subst, arith}
use Rattle.std.proofs.lemmas.List.{length-set}
use Rattle.std.proofs.Math.ListN.{set}
use Rattle.ak_base.specs.declared.point.Point.{Point}
use Rattle.ak_pool.specs.Frames.{Frames, frames_of, used_frame, IsUsed}
use Rattle.ak_pool.specs.Slots.{all_used, KeepsFrames}
use Rattle.ak_pool.specs.declared.slot.Slot.{Slot}
use Rattle.ak_pool.proofs.Kept.{kept_taken, taken_seen, taken_unused, all_are_used, one_is_free, frames_kept}
use Rattle.ak_pool.proofs.pool.Pool.take.Goals as goal

pub returns-in_default-clause-some : goal.returns-in_default-clause-some
returns-in_default-clause-some c =
    let all = subst (λ (v : Frames). length v.used ≡ v.count) c.self.view_is (all_are_used _ _ c.self.invariant c.in_default.ensures.none.1) in
    ((λ e. cc), λ h. absurd (omega arith))

pub returns-in_default-clause-valid : goal.returns-in_default-clause-valid
returns-in_default-clause-valid c = frames_kept _ _ (subst (KeepsFrames c.self.inside.slots.items) (sym c.in_default.ensures.none.0) c.self.invariant)

pub returns-clause-some : goal.returns-clause-some
returns-clause-some c =
    let some = subst (λ (v : Frames). length v.used < v.count) c.self.view_is (one_is_free _ _ _ _ c.self.invariant c.in-Some.ensures.some) in
    ((λ _. some), λ _. refl)

pub returns-clause-taken : goal.returns-clause-taken
returns-clause-taken c =
    let slots = c.self.inside.slots.items in
    let f = c.in-Some.frame in
    let s : Slot = record { series = c.args.series; leaf = c.clear.new.self } in
    let same : all_used (set slots f s) c.put_first.new.self ≡ used_frame f c.args.series [] ∷ all_used slots c.self.inside.chains =
    taken_seen _ _ _ _ f s c.self.invariant c.in-Some.ensures.some c.put_first.ensures.chains (c.put_first.ensures.each ∙ c.take_free.ensures.each)
    ∙ ap (λ (l : List Point). used_frame f c.args.series l ∷ all_used slots c.self.inside.chains) c.clear.ensures in
    subst (λ (v : Frames). frames_of (length (set slots f s)) (all_used (set slots f s) c.put_first.new.self) ≡ frames_of v.count (used_frame f c.args.series [] ∷ v.used)) c.self.view_is
    (rw same (ap (λ (n : ℕ). frames_of n (used_frame f c.args.series [] ∷ all_used slots c.self.inside.chains)) (length-set slots f s)))

pub returns-clause-unused : goal.returns-clause-unused
returns-clause-unused c =
    subst (λ (v : Frames). IsUsed v.used c.in-Some.frame → ⊥) c.self.view_is (taken_unused _ _ _ _ _ c.self.invariant c.in-Some.ensures.some c.put_first.ensures.chains)

pub returns-clause-valid : goal.returns-clause-valid
returns-clause-valid c =
    frames_kept _ _
    (kept_taken _ _ _ _ c.in-Some.frame (record { series = c.args.series; leaf = c.clear.new.self }) c.self.invariant c.in-Some.ensures.some c.put_first.ensures.chains
    (c.put_first.ensures.each ∙ c.take_free.ensures.each))
