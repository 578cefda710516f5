use Rattle.std.proofs.Common.{refl}
use Rattle.akl.proofs.Keeping.{kept_other}
use Rattle.akl.proofs.real.directory.Directory.sync_own_name.Goals as goal

pub invariant_of-self : goal.invariant_of-self
invariant_of-self c = record { kept = rw c.sync_own_name-synced.ensures (kept_other _ _ _ _ _ (λ f. (refl, refl)) c.args.self.now.kept) }

pub invariant_of-self-in_default : goal.invariant_of-self-in_default
invariant_of-self-in_default c = record { kept = rw c.sync_own_name-synced.ensures (kept_other _ _ _ _ _ (λ f. (refl, refl)) c.args.self.now.kept) }
