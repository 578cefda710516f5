use Rattle.akl.proofs.Keeping.{names_now, kept_names}
use Rattle.akl.proofs.real.directory.Directory.settle_names.Goals as goal

pub invariant_of-self : goal.invariant_of-self
invariant_of-self c = record {
  kept = kept_names c.sync_names.new.self.settled _ _ (rw c.in_ok-sync_names.ensures.calls (rw c.in_ok-sync_own_name.ensures.calls (names_now _))) c.sync_names.new.self.kept;
}
