use Rattle.std.proofs.Common.{◌≡◌, length, sym, ap, ◌∙◌, subst}
use Rattle.ak_pool.specs.Frames.{Frames, frames_of, IsUsed, without}
use Rattle.ak_pool.specs.Slots.{all_used}
use Rattle.ak_pool.proofs.Kept.{in_its_order, loose, kept_given, given_seen, frames_kept}
use Rattle.ak_pool.proofs.pool.Pool.give.Goals as goal

pub detach-requires : goal.detach-requires
detach-requires c = in_its_order _ _ _ c.self.invariant (subst (λ (v : Frames). IsUsed v.used c.args.f.0) (sym c.self.view_is) c.requires)

pub put_free-requires : goal.put_free-requires
put_free-requires c = loose _ _ _ _ c.self.invariant (subst (λ (v : Frames). IsUsed v.used c.args.f.0) (sym c.self.view_is) c.requires) c.detach.ensures.chains

pub invariant_of-self : goal.invariant_of-self
invariant_of-self c =
    kept_given _ _ _ _ _ c.self.invariant (subst (λ (v : Frames). IsUsed v.used c.args.f.0) (sym c.self.view_is) c.requires) c.detach.ensures.chains c.put_free.ensures.chains
    (c.put_free.ensures.each ∙ c.detach.ensures.each)

pub returns-clause-given : goal.returns-clause-given
returns-clause-given c =
    subst (λ (v : Frames). frames_of (length c.self.inside.slots.items) (all_used c.self.inside.slots.items c.put_free.new.self) ≡ frames_of v.count (without v.used c.args.f.0)) c.self.view_is
    (ap (frames_of (length c.self.inside.slots.items))
    (given_seen _ _ _ _ _ c.self.invariant (subst (λ (v : Frames). IsUsed v.used c.args.f.0) (sym c.self.view_is) c.requires) c.detach.ensures.chains c.put_free.ensures.chains))

pub returns-clause-valid : goal.returns-clause-valid
returns-clause-valid c = frames_kept _ _ (invariant_of-self c)
