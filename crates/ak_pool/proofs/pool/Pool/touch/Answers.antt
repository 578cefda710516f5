use Rattle.std.proofs.Common.{◌≡◌, length, sym, ap, ◌∙◌, subst}
use Rattle.ak_pool.specs.Frames.{Frames, frames_of, IsUsed, moved_first}
use Rattle.ak_pool.specs.Slots.{all_used}
use Rattle.ak_pool.proofs.Kept.{in_its_order, loose, kept_moved, moved_seen, frames_kept}
use Rattle.ak_pool.proofs.pool.Pool.touch.Goals as goal

pub detach-requires : goal.detach-requires
detach-requires c = in_its_order _ _ _ c.self.invariant (subst (λ (v : Frames). IsUsed v.used c.args.f.0) (sym c.self.view_is) c.requires)

pub put_first-requires : goal.put_first-requires
put_first-requires c = loose _ _ _ _ c.self.invariant (subst (λ (v : Frames). IsUsed v.used c.args.f.0) (sym c.self.view_is) c.requires) c.detach.ensures.chains

pub invariant_of-self : goal.invariant_of-self
invariant_of-self c =
    kept_moved _ _ _ _ _ c.self.invariant (subst (λ (v : Frames). IsUsed v.used c.args.f.0) (sym c.self.view_is) c.requires) c.detach.ensures.chains c.put_first.ensures.chains
    (c.put_first.ensures.each ∙ c.detach.ensures.each)

pub returns-clause-moved : goal.returns-clause-moved
returns-clause-moved c =
    subst (λ (v : Frames). frames_of (length c.self.inside.slots.items) (all_used c.self.inside.slots.items c.put_first.new.self) ≡ frames_of v.count (moved_first v.used c.args.f.0)) c.self.view_is
    (ap (frames_of (length c.self.inside.slots.items))
    (moved_seen _ _ _ _ _ c.self.invariant (subst (λ (v : Frames). IsUsed v.used c.args.f.0) (sym c.self.view_is) c.requires) c.detach.ensures.chains c.put_first.ensures.chains))

pub returns-clause-valid : goal.returns-clause-valid
returns-clause-valid c = frames_kept _ _ (invariant_of-self c)
