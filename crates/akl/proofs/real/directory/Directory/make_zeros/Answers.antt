use Rattle.std.proofs.Common.{refl}
use Rattle.akl.proofs.Keeping.{kept_other}
use Rattle.akl.proofs.real.directory.Directory.make_zeros.Goals as goal

pub invariant_of-self : goal.invariant_of-self
invariant_of-self c = record { kept = rw c.zero.ensures (kept_other _ _ _ _ _ (λ f. (refl, refl)) c.args.self.now.kept) }

pub invariant_of-self-2 : goal.invariant_of-self-2
invariant_of-self-2 c = record { kept = rw c.sync_zeros.ensures (kept_other _ _ _ _ _ (λ f. (refl, refl)) (rw c.zero.ensures (kept_other _ _ _ _ _ (λ f. (refl, refl)) c.args.self.now.kept))) }
