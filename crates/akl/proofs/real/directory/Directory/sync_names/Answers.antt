use Rattle.std.proofs.Common.{refl}
use Rattle.akl.proofs.Keeping.{kept_other}
use Rattle.akl.proofs.real.directory.Directory.sync_names.Goals as goal

pub invariant_of-self-in-Err : goal.invariant_of-self-in-Err
invariant_of-self-in-Err c = record { kept = rw c.sync_names-synced.ensures (kept_other _ _ _ _ _ (λ f. (refl, refl)) c.args.self.now.kept) }

pub invariant_of-self-in_default-synced : goal.invariant_of-self-in_default-synced
invariant_of-self-in_default-synced c = record { kept = rw c.sync_names-synced.ensures (kept_other _ _ _ _ _ (λ f. (refl, refl)) c.args.self.now.kept) }
