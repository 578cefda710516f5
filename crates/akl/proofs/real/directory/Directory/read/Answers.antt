use Rattle.std.proofs.Common.{refl}
use Rattle.akl.proofs.Keeping.{kept_other, certain_marked, read_settled}
use Rattle.akl.proofs.real.directory.Directory.read.Goals as goal

pub invariant_of-self-2 : goal.invariant_of-self-2
invariant_of-self-2 c = record { kept = rw c.read.ensures (kept_other _ _ _ _ _ (λ f. (refl, refl)) c.settle_file.new.self.kept) }

pub returns : goal.returns
returns c =
    let self = c.settle_file.new.self in
    let marked = c.in_ok-settle_file.ensures.settled in
    record {
      read = read_settled c.read.result c.args.file self.calls.items _ c.read.ensures c.in_ok-settle_file.ensures.names (self.kept.marks c.args.file marked)
          (certain_marked self.settled self.files.items self.calls.items c.args.file self.kept marked);
    }
