use Rattle.std.proofs.Common.{refl}
use Rattle.akl.proofs.Keeping.{kept_other}
use Rattle.akl.proofs.real.directory.Directory.hold_and_list.Goals as goal

pub invariant_of-self : goal.invariant_of-self
invariant_of-self c = record { kept = rw c.lock.ensures (kept_other _ _ _ _ _ (λ f. (refl, refl)) c.args.self.now.kept) }

pub invariant_of-self-in-Break-branch-2 : goal.invariant_of-self-in-Break-branch-2
invariant_of-self-in-Break-branch-2 c = record { kept = rw c.list.ensures (kept_other _ _ _ _ _ (λ f. (refl, refl)) (rw c.lock.ensures (kept_other _ _ _ _ _ (λ f. (refl, refl)) c.args.self.now.kept))) }

pub invariant_of-self-2 : goal.invariant_of-self-2
invariant_of-self-2 c = record { kept = rw c.list.ensures (kept_other _ _ _ _ _ (λ f. (refl, refl)) (rw c.lock.ensures (kept_other _ _ _ _ _ (λ f. (refl, refl)) c.args.self.now.kept))) }
