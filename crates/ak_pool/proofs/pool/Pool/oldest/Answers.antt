use Rattle.std.proofs.Common.{◌≡◌, [], subst, refl}
use Rattle.ak_pool.specs.Frames.{Frames, AreFrames, IsLastFrame}
use Rattle.ak_pool.proofs.Kept.{frames_kept, seen_last, seen_none}
use Rattle.ak_pool.proofs.pool.Pool.oldest.Goals as goal

pub returns-then-self-clause-none : goal.returns-then-self-clause-none
returns-then-self-clause-none c =
    ((λ _. subst (λ (v : Frames). v.used ≡ []) c.self.view_is (seen_none _ _ c.self.invariant c.if-self.true)), λ _. refl)

pub returns-then-self-clause-valid : goal.returns-then-self-clause-valid
returns-then-self-clause-valid c = subst AreFrames c.self.view_is (frames_kept _ _ c.self.invariant)

pub returns-clause-last : goal.returns-clause-last
returns-clause-last c = subst (λ (v : Frames). IsLastFrame v.used c.self.inside.chains.last) c.self.view_is (seen_last _ _ c.self.invariant c.if-self.false)

pub returns-clause-valid : goal.returns-clause-valid
returns-clause-valid c = subst AreFrames c.self.view_is (frames_kept _ _ c.self.invariant)
