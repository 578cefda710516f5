use Rattle.akl.proofs.Keeping.{kept_new}
use Rattle.akl.proofs.real.directory.Directory.open.Goals as goal

pub invariant_of-directory : goal.invariant_of-directory
invariant_of-directory c = record { kept = kept_new _ _ c.new.ensures.items c.new-2.ensures }
