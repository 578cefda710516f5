-- What a stop leaves of file 0 while a view is saved.
use Rattle.std.proofs.Common.{◌≡◌, ◌≢◌, ◌⊎◌, inl, inr, ℕ, ◌+◌, ◌<◌, true, false, List, length, slice_set, refl, sym, ◌∙◌, ap, subst, arith, Option, Some}
use Rattle.std.proofs.lemmas.Bool.{cases_Bool}
use Rattle.std.proofs.lemmas.List.{length-set}
use Rattle.ak_base.proofs.Basics.{not_both}
use Rattle.ak_host.specs.Files.{Files, MayBeTorn, file_at}
use Rattle.ak_host.specs.Moments.{HostState, LeavesNow, DiskPasses}
use Rattle.ak_host.specs.Calls.{Follows}
use Rattle.ak_host.proofs.Items.{may_be_torn_file}
use Rattle.ak_host.proofs.Passing.{disk_goes_on, disk_now, disk_weaker}
use Rattle.ak_gate.specs.declared.half.Half.{Half}
use Rattle.ak_gate.specs.declared.half.Half.TheVariants.{First, Second}
use Rattle.ak_gate.specs.Slots.{Frame, other, gate_index, body_index, gate_at, body_at, is_open, newest_in, newest}
use Rattle.ak_gate.specs.View.{View}
use Rattle.ak_gate.specs.Fits.{Fits, Knows, Stands, other_frame}
use Rattle.ak_gate.specs.Written.{IsTornAt}
use Rattle.ak_gate.proofs.Newest.{gate_kept, gate_leaves_body, stands_newest}
use Rattle.ak_gate.proofs.Fitting.{body_left, closing_left}
use Rattle.ak_record.specs.Records.{HasNewest, IsRecord, Rests}

stands_on : (view : View) (file mid left : List (List ℕ)) → Stands view file mid → Stands view mid left → Stands view file left
stands_on view file mid left first second = record {
  length_same = second.length_same ∙ first.length_same;
  gate_same = second.gate_same ∙ first.gate_same;
  other_same = second.other_same ∙ first.other_same;
  body_same = second.body_same ∙ first.body_same;
  all_same = λ opened. second.all_same opened ∙ first.all_same opened;
}

-- one block more of the other body is written
pub body_goes_on : (view now : View) (start old new : HostState) (i : ℕ) → now ≡ view → view.other_open ≡ false → i < view.slot
    → Fits view start → LeavesNow old old.files → Fits now old
    → DiskPasses (λ left. Stands view (file_at start.files 0) (file_at left 0)) start old
    → DiskPasses (Follows (MayBeTorn 0 (body_index now.slot (other now.newest) + i)) old) old new
    → DiskPasses (λ left. Stands view (file_at start.files 0) (file_at left 0)) start new
body_goes_on view now start old new i same closed within fits_start here fits so_far torn =
    let begun = disk_now so_far fits_start.stands old.files here in
    let fits_view : Fits view old = subst (λ (v : View). Fits v old) same fits in
    let torn_view = subst (λ (v : View). DiskPasses (Follows (MayBeTorn 0 (body_index v.slot (other v.newest) + i)) old) old new) same torn in
    disk_goes_on so_far torn_view (λ disk follows. stands_on view (file_at start.files 0) (file_at old.files 0) (file_at disk 0) begun (body_left view old fits_view _ i refl closed within disk follows))

this_or_other : (newest half : Half) → (half ≡ newest) ⊎ (half ≡ other newest)
this_or_other First First = inl refl
this_or_other First Second = inr refl
this_or_other Second First = inr refl
this_or_other Second Second = inl refl

other_index : (half : Half) → gate_index (other half) ≢ gate_index half
other_index First same = absurd (omega arith)
other_index Second same = absurd (omega arith)

-- only file 0 tells
pub same_file : (slot : ℕ) (frame : Option Frame) (files disk : Files) → file_at disk 0 ≡ file_at files 0 → HasNewest slot frame files → HasNewest slot frame disk
same_file slot frame files disk is has = record {
  blocks = ap length is ∙ has.blocks;
  newest_is = ap (newest_in slot) is ∙ has.newest_is;
  records = λ half opened. subst (λ file. IsRecord slot (body_at slot half file)) (sym is) (has.records half (ap (λ file. is_open (gate_at half file)) (sym is) ∙ opened));
}

-- both gates and the newest body stand, and the other gate is closed
pub stands_has : (view : View) (frame : Option Frame) (files disk : Files) → view.other_open ≡ false → Knows view (file_at files 0)
    → Stands view (file_at files 0) (file_at disk 0) → HasNewest view.slot frame files → HasNewest view.slot frame disk
stands_has view frame files disk closed knows stands has = record {
  blocks = stands.length_same ∙ has.blocks;
  newest_is = stands_newest view (file_at files 0) knows (file_at disk 0) stands ∙ has.newest_is;
  records = λ half opened. records half (this_or_other view.newest half) opened;
}
  where
    own : is_open (gate_at view.newest (file_at disk 0)) ≡ true → IsRecord view.slot (body_at view.slot view.newest (file_at disk 0))
    own opened = subst (IsRecord view.slot) (sym stands.body_same) (has.records view.newest (ap is_open (sym stands.gate_same) ∙ opened))

    records : (half : Half) → (half ≡ view.newest) ⊎ (half ≡ other view.newest) → is_open (gate_at half (file_at disk 0)) ≡ true → IsRecord view.slot (body_at view.slot half (file_at disk 0))
    records half (inl is) opened =
        subst (λ h. IsRecord view.slot (body_at view.slot h (file_at disk 0))) (sym is) (own (ap (λ h. is_open (gate_at h (file_at disk 0))) (sym is) ∙ opened))
    records half (inr is) opened =
        absurd (not_both _ (ap (λ h. is_open (gate_at h (file_at disk 0))) (sym is) ∙ opened) (ap is_open stands.other_same ∙ knows.others ∙ closed))

-- the other gate is torn, and behind it there is a record
pub gate_torn : (view : View) (before frame : Option Frame) (files disk : Files) (block : List ℕ) → HasNewest view.slot before files
    → IsRecord view.slot (body_at view.slot (other view.newest) (file_at files 0)) → file_at disk 0 ≡ slice_set (file_at files 0) (gate_index (other view.newest)) block
    → newest view.slot disk ≡ frame → HasNewest view.slot frame disk
gate_torn view before frame files disk block has written is newest_is = record {
  blocks = ap length is ∙ length-set (file_at files 0) (gate_index (other view.newest)) block ∙ has.blocks;
  newest_is = newest_is;
  records = λ half opened. records half (this_or_other view.newest half) opened;
}
  where
    body_same : (half : Half) → body_at view.slot half (file_at disk 0) ≡ body_at view.slot half (file_at files 0)
    body_same half = ap (body_at view.slot half) is ∙ gate_leaves_body view.slot half (other view.newest) (file_at files 0) block

    gate_same : gate_at view.newest (file_at disk 0) ≡ gate_at view.newest (file_at files 0)
    gate_same = ap (gate_at view.newest) is ∙ gate_kept view.newest (file_at files 0) (gate_index (other view.newest)) block (other_index view.newest)

    own : is_open (gate_at view.newest (file_at disk 0)) ≡ true → IsRecord view.slot (body_at view.slot view.newest (file_at files 0))
    own opened = has.records view.newest (ap is_open (sym gate_same) ∙ opened)

    records : (half : Half) → (half ≡ view.newest) ⊎ (half ≡ other view.newest) → is_open (gate_at half (file_at disk 0)) ≡ true → IsRecord view.slot (body_at view.slot half (file_at disk 0))
    records half (inl at) opened = subst (IsRecord view.slot) (sym (body_same half))
        (subst (λ h. IsRecord view.slot (body_at view.slot h (file_at files 0))) (sym at) (own (ap (λ h. is_open (gate_at h (file_at disk 0))) (sym at) ∙ opened)))
    records half (inr at) opened = subst (IsRecord view.slot) (sym (body_same half)) (subst (λ h. IsRecord view.slot (body_at view.slot h (file_at files 0))) (sym at) written)

-- while the other gate is closed
pub shut_left : (view : View) (old : HostState) (frame : Option Frame) → Fits view old → HasNewest view.slot frame old.files → view.other_open ≡ true
    → (disk : Files) → Follows (MayBeTorn 0 (gate_index (other view.newest))) old disk → HasNewest view.slot frame disk
shut_left view old frame fits has was_open disk (before, left, torn) =
    let same = (fits.stands before left).all_same was_open in
    elim (may_be_torn_file 0 (gate_index (other view.newest)) before disk torn) [
      | inl is ↦ same_file view.slot frame old.files disk (is ∙ same) has
      | inr (block, is) ↦
          gate_torn view frame frame old.files disk block has (has.records (other view.newest) (fits.knows.others ∙ was_open))
          (is ∙ ap (λ file. slice_set file (gate_index (other view.newest)) block) same)
          (closing_left view old fits (gate_index (other view.newest)) refl was_open disk (before, left, torn) ∙ has.newest_is)
    ]

pub shut_passes : (view : View) (old new : HostState) (frame : Option Frame) → Fits view old → HasNewest view.slot frame old.files
    → DiskPasses (Follows (MayBeTorn 0 (gate_index (other view.newest))) old) old new
    → (view.other_open ≡ false → DiskPasses (HasNewest view.slot frame) old new)
    → DiskPasses (HasNewest view.slot frame) old new
shut_passes view old new frame fits has torn closed = elim (cases_Bool view.other_open) [
  | inl was_open ↦ disk_weaker torn (shut_left view old frame fits has was_open)
  | inr was_closed ↦ closed was_closed
]

-- while its body is written
pub body_passes : (view : View) (old new : HostState) (frame : Option Frame) → view.other_open ≡ false → Fits view old → HasNewest view.slot frame old.files
    → DiskPasses (λ left. Stands view (file_at old.files 0) (file_at left 0)) old new
    → DiskPasses (HasNewest view.slot frame) old new
body_passes view old new frame closed fits has run = disk_weaker run (λ disk stands. stands_has view frame old.files disk closed fits.knows stands has)

-- while its gate is opened

pub both_pass : {P Q : Files → Type 0} {old new : HostState} → DiskPasses P old new → DiskPasses Q old new → DiskPasses (λ disk. P disk × Q disk) old new
both_pass first second = record {
  later = first.later;
  mark_kept = first.mark_kept;
  leaves_kept = first.leaves_kept;
  marks = first.marks;
  disks = λ t disk after until left. (first.disks t disk after until left, second.disks t disk after until left);
}

reveal_left : (view : View) (old : HostState) (before : Option Frame) → Rests view.slot before old → HasNewest view.slot before old.files
    → IsRecord view.slot (body_at view.slot (other view.newest) (file_at old.files 0))
    → (disk : Files) → (LeavesNow old disk ⊎ IsTornAt (gate_index (other view.newest)) (file_at old.files 0) disk)
    → (newest view.slot disk ≡ newest view.slot old.files) ⊎ (newest view.slot disk ≡ Some (other_frame view old.files))
    → HasNewest view.slot before disk ⊎ HasNewest view.slot (Some (other_frame view old.files)) disk
reveal_left view old before rests has written disk (inl left) which = inl (rests disk left)
reveal_left view old before rests has written disk (inr (inl same)) which = inl (same_file view.slot before old.files disk same has)
reveal_left view old before rests has written disk (inr (inr (block, bytes, is))) (inl still) = inl (gate_torn view before before old.files disk block has written is (still ∙ has.newest_is))
reveal_left view old before rests has written disk (inr (inr (block, bytes, is))) (inr now) = inr (gate_torn view before (Some (other_frame view old.files)) old.files disk block has written is now)

pub reveal_passes : (view : View) (old new : HostState) (before : Option Frame) → Rests view.slot before old → HasNewest view.slot before old.files
    → IsRecord view.slot (body_at view.slot (other view.newest) (file_at old.files 0))
    → DiskPasses (λ left. LeavesNow old left ⊎ IsTornAt (gate_index (other view.newest)) (file_at old.files 0) left) old new
    → DiskPasses (λ left. (newest view.slot left ≡ newest view.slot old.files) ⊎ (newest view.slot left ≡ Some (other_frame view old.files))) old new
    → DiskPasses (λ left. HasNewest view.slot before left ⊎ HasNewest view.slot (Some (other_frame view old.files)) left) old new
reveal_passes view old new before rests has written torn which = disk_weaker (both_pass torn which) (λ disk both. reveal_left view old before rests has written disk both.0 both.1)

-- once it is known which is the newest
pub either_newest : (slot : ℕ) (before after : Option Frame) (disk : Files) → HasNewest slot before disk ⊎ HasNewest slot after disk → newest slot disk ≡ after → HasNewest slot after disk
either_newest slot before after disk (inl has) is = record { blocks = has.blocks; newest_is = is; records = has.records }
either_newest slot before after disk (inr has) is = has

-- from the start of a save to the end of its body
pub written_passes : (view now : View) (old mid new : HostState) (before : Option Frame) → now ≡ record view { other_open = false }
    → Fits view old → Rests view.slot before old → LeavesNow old old.files → LeavesNow mid mid.files
    → DiskPasses (Follows (MayBeTorn 0 (gate_index (other view.newest))) old) old mid
    → (view.other_open ≡ false → DiskPasses (HasNewest view.slot before) old mid)
    → Fits now mid → DiskPasses (λ left. Stands now (file_at mid.files 0) (file_at left 0)) mid new
    → DiskPasses (HasNewest view.slot before) old new
written_passes view now old mid new before same fits rests here here_mid torn closed fits_mid run =
    let first = shut_passes view old mid before fits (rests old.files here) torn closed in
    let fits_shut : Fits (record view { other_open = false }) mid = subst (λ (v : View). Fits v mid) same fits_mid in
    let run_shut = subst (λ (v : View). DiskPasses (λ left. Stands v (file_at mid.files 0) (file_at left 0)) mid new) same run in
    disk_goes_on first (body_passes (record view { other_open = false }) mid new before refl fits_shut (disk_now first rests mid.files here_mid) run_shut) (λ disk has. has)

-- and on to the end of the save
pub saved_passes : (view now : View) (old mid new : HostState) (before : Option Frame) (after : Frame) → now ≡ record view { other_open = false }
    → DiskPasses (HasNewest view.slot before) old mid → Rests view.slot before old → LeavesNow mid mid.files
    → IsRecord view.slot (body_at view.slot (other view.newest) (file_at mid.files 0)) → other_frame view mid.files ≡ after
    → DiskPasses (λ left. LeavesNow mid left ⊎ IsTornAt (gate_index (other now.newest)) (file_at mid.files 0) left) mid new
    → DiskPasses (λ left. (newest now.slot left ≡ newest now.slot mid.files) ⊎ (newest now.slot left ≡ Some (other_frame now mid.files))) mid new
    → DiskPasses (λ left. HasNewest view.slot before left ⊎ HasNewest view.slot (Some after) left) old new
saved_passes view now old mid new before after same so_far rests here written is torn which =
    let rests_mid = disk_now so_far rests in
    let torn_shut = subst (λ (v : View). DiskPasses (λ left. LeavesNow mid left ⊎ IsTornAt (gate_index (other v.newest)) (file_at mid.files 0) left) mid new) same torn in
    let which_shut = subst (λ (v : View). DiskPasses (λ left. (newest v.slot left ≡ newest v.slot mid.files) ⊎ (newest v.slot left ≡ Some (other_frame v mid.files))) mid new) same which in
    subst (λ frame. DiskPasses (λ left. HasNewest view.slot before left ⊎ HasNewest view.slot (Some frame) left) old new) is
    (disk_goes_on {P = λ left. HasNewest view.slot before left ⊎ HasNewest view.slot (Some (other_frame view mid.files)) left} (disk_weaker so_far (λ disk has. inl has))
    (reveal_passes view mid new before rests_mid (rests_mid mid.files here) written torn_shut which_shut) (λ disk has. has))
