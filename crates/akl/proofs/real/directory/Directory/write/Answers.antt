use Rattle.std.proofs.Common.{refl}
use Rattle.akl.proofs.Keeping.{kept_other}
use Rattle.akl.proofs.real.directory.Directory.write.Goals as goal

pub invariant_of-self-2 : goal.invariant_of-self-2
invariant_of-self-2 c = record { kept = rw c.write.ensures (kept_other _ _ _ _ _ (λ f. (refl, refl)) c.args.self.now.kept) }
