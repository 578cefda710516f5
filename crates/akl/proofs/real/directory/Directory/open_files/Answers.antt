use Rattle.akl.proofs.Keeping.{kept_pushed}
use Rattle.akl.proofs.real.directory.Directory.open_files.Goals as goal

pub invariant_of-self : goal.invariant_of-self
invariant_of-self c =
    let self = c.loop-file.self in
    record { kept = rw c.push.ensures.items (kept_pushed _ self.settled self.files.items self.calls.items c.find_file-found.result.file c.find_file-found.ensures self.kept) }
