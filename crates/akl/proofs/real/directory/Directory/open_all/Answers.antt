use Rattle.std.proofs.Common.{refl}
use Rattle.akl.proofs.Keeping.{kept_pushed}
use Rattle.akl.proofs.real.directory.Directory.open_all.Goals as goal

pub invariant_of-self-in_default-kind : goal.invariant_of-self-in_default-kind
invariant_of-self-in_default-kind c =
    let self = c.hold_and_list.new.self in
    record { kept = rw c.push.ensures.items (kept_pushed _ self.settled self.files.items self.calls.items _ refl self.kept) }
