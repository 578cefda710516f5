use Rattle.akl.proofs.Keeping.{kept_settled, kept_unsettled, marked_now}
use Rattle.akl.proofs.real.directory.Directory.settle_file.Goals as goal

pub invariant_of-self-in-Err : goal.invariant_of-self-in-Err
invariant_of-self-in-Err c =
    let self = c.settle_names.new.self in
    let here = rw c.deref.ensures.value at c.in_ok-opened.ensures in
    record {
      kept = rw c.give_up.ensures (kept_unsettled self.settled self.files.items self.calls.items _ c.args.file c.in_ok-opened.opened.now c.in-Err.error here c.in-Err.ensures.err self.kept);
    }

pub invariant_of-self-2 : goal.invariant_of-self-2
invariant_of-self-2 c =
    let self = c.settle_names.new.self in
    record { kept = rw c.mark.ensures (rw c.in_default.ensures.ok (kept_settled self.settled self.files.items self.calls.items c.args.file self.kept)) }

pub returns-clause-settled : goal.returns-clause-settled
returns-clause-settled c =
    let here = rw c.deref.ensures.value at c.in_ok-opened.ensures in
    rw c.mark.ensures (marked_now c.settle_names.new.self.files.items c.args.file c.in_ok-opened.opened.now here)
