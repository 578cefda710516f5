use Rattle.std.proofs.lemmas.Option.{slice_get_within}
use Rattle.akl.specs.declared.real.system.SystemCall.TheVariants.{Synced}
use Rattle.akl.proofs.Keeping.{names_more, certain_marked, certain_done, kept_failed, kept_done, synced_is_of}
use Rattle.akl.proofs.real.directory.Directory.sync.Goals as goal

pub returns-then-not-branch-clause-certain : goal.returns-then-not-branch-clause-certain
returns-then-not-branch-clause-certain c =
    let self = c.settle_file.new.self in
    certain_marked self.settled self.files.items self.calls.items c.args.file self.kept c.in_ok-settle_file.ensures.settled

pub invariant_of-self-in-Err : goal.invariant_of-self-in-Err
invariant_of-self-in-Err c =
    let self = c.settle_file.new.self in
    let here = rw c.deref.ensures.value at c.in_ok-opened.ensures in
    let within = slice_get_within self.files.items c.args.file _ here in
    record {
      kept = rw c.give_up.ensures (rw c.in-Err.ensures (kept_failed self.settled self.files.items self.calls.items c.args.file (Synced c.args.file) c.in-Err.error (synced_is_of c.args.file) within self.kept));
    }

pub invariant_of-self-in_default : goal.invariant_of-self-in_default
invariant_of-self-in_default c =
    let self = c.settle_file.new.self in
    record { kept = rw c.in_default.ensures (kept_done self.settled self.files.items self.calls.items (Synced c.args.file) self.kept) }

pub returns-in_default-clause-names : goal.returns-in_default-clause-names
returns-in_default-clause-names c =
    rw c.in_default.is (rw c.in_default.ensures (names_more c.settle_file.new.self.calls.items (Synced c.args.file) _ c.in_ok-settle_file.ensures.names))

pub returns-in_default-clause-certain : goal.returns-in_default-clause-certain
returns-in_default-clause-certain c =
    let self = c.settle_file.new.self in
    let certain = certain_marked self.settled self.files.items self.calls.items c.args.file self.kept c.in_ok-settle_file.ensures.settled in
    rw c.in_default.is (rw c.in_default.ensures (certain_done c.args.file self.calls.items (Synced c.args.file) certain))
