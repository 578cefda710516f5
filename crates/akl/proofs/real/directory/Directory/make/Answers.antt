use Rattle.std.proofs.Common.{refl, ◌≡◌, ◌∙◌, ◌≤◌, ◌++◌, ap, length, true}
use Rattle.akl.specs.declared.real.system.SystemCall.TheVariants.{Renamed, NamesSynced}
use Rattle.akl.specs.Calls.{noted, zeroing}
use Rattle.akl.specs.Opens.{given_up}
use Rattle.akl.proofs.Keeping.{kept_other, kept_given_up, kept_made, settled_made, certain_made, certain_usable, length_given_up}
use Rattle.akl.proofs.real.directory.Directory.make.Goals as goal

pub invariant_of-self-2 : goal.invariant_of-self-2
invariant_of-self-2 c =
    let self = c.make_zeros.new.self in
    record {
      kept = rw c.rename.ensures (kept_other _ _ _ _ _ (λ f. (refl, refl)) (rw c.give_up.ensures (kept_given_up self.settled self.files.items self.calls.items c.args.file c.in_doubt.result self.kept)));
    }

pub invariant_of-self-3 : goal.invariant_of-self-3
invariant_of-self-3 c =
    let first = c.settle_names.new.self in
    let last = c.sync_names.new.self in
    let file = c.args.file in
    let calls : last.calls.items ≡ noted (noted (first.calls.items ++ zeroing file) (Renamed file) true) NamesSynced true =
    c.in_ok-sync_names.ensures.calls ∙ ap (λ l. noted l NamesSynced true) (c.in_ok-rename.ensures ∙ ap (λ l. noted l (Renamed file) true) c.in_ok-made.ensures.calls) in
    let files : last.files.items ≡ given_up c.make_zeros.new.self.files.items file c.in_doubt.result = ap (λ f. f.items) c.in_ok-sync_names.ensures.files ∙ c.give_up.ensures in
    let before : c.make_zeros.new.self.files.items ≡ first.files.items = ap (λ f. f.items) c.in_ok-made.ensures.files ∙ c.in_ok-reserve.ensures.items in
    let within : file ≤ length last.files.items =
    rw files (rw (length_given_up c.make_zeros.new.self.files.items file c.in_doubt.result) (rw before c.in_ok-check_usable.ensures.next)) in
    let certain = certain_usable first.settled first.files.items first.calls.items file first.kept c.in_ok-check_usable.ensures.usable in
    record {
      kept = kept_made c.put_item.result last.settled last.files.items _ last.calls.items file _ c.put_item.ensures.ok c.put_item.ensures.err within
          (rw calls (settled_made first.calls.items file)) (rw calls (certain_made first.calls.items file certain)) last.kept;
    }
