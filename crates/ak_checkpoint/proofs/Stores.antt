-- A store while it is made.
use Rattle.std.proofs.Common.{◌≡◌, ◌⊎◌, inl, inr, ℕ, zero, suc, ◌+◌, ◌*◌, ◌<◌, ◌≤◌, true, false, Bool, List, [], ◌∷◌, length, slice_index, refl, sym, ◌∙◌, ap, subst, arith, Option, None, Some}
use Rattle.std.proofs.lemmas.List.{length-replicate}
use Rattle.std.proofs.lemmas.Bool.{cases_lt}
use Rattle.ak_base.specs.declared.limits.Limits.{Limits}
use Rattle.ak_base.specs.Ranges.{AreLimits}
use Rattle.ak_host.specs.Files.{Files, Made, file_at, with_item, zero_block, zero_blocks}
use Rattle.ak_host.specs.Moments.{HostState, LeavesNow, IsStable, DiskPasses}
use Rattle.ak_host.specs.Calls.{Follows}
use Rattle.ak_host.proofs.Passing.{disk_goes_on, disk_weaker, follows_now}
use Rattle.ak_gate.specs.declared.half.Half.TheVariants.{First, Second}
use Rattle.ak_gate.specs.Fits.{SameElsewhere}
use Rattle.ak_gate.specs.Slots.{Frame, body_at, frame_of, gate_at, is_open, newest_in, newest_of}
use Rattle.ak_gate.specs.View.{View}
use Rattle.ak_gate.proofs.Newest.{zeros_known}
use Rattle.ak_meta.specs.Contents.{Content, IsMeta}
use Rattle.ak_meta.specs.Leaves.{first_content}
use Rattle.ak_meta.proofs.Lawful.{first_lawful}
use Rattle.ak_record.specs.Stops.{AreShut, IsNoStore}
use Rattle.ak_record.specs.Records.{HasNewest, Rests, frame_for, frame_bytes}
use Rattle.ak_checkpoint.specs.Making.{AreEmpty, IsMade}
use Rattle.ak_checkpoint.specs.Saving.{Saving, IsSavedOver, IsSaving}

-- a file more

pub with_item-past : {A : Type 0} (items : List A) (at : ℕ) (item : A) → at ≤ length items → at < length (with_item items at item)
with_item-past [] at item le = omega arith
with_item-past (x ∷ items) zero item le = omega arith
with_item-past (x ∷ items) (suc at) item le = omega (arith, with_item-past items at item (omega arith))

pub with_item-same : (items : List ℕ) (at item : ℕ) → at ≤ length items → slice_index (with_item items at item) at ≡ item
with_item-same [] zero item le = refl
with_item-same [] (suc at) item le = absurd (omega arith)
with_item-same (x ∷ items) zero item le = refl
with_item-same (x ∷ items) (suc at) item le = with_item-same items at item (omega arith)

pub with_item-other : (items : List ℕ) (at item k : ℕ) → at ≤ length items → k < at → slice_index (with_item items at item) k ≡ slice_index items k
with_item-other [] at item k le lt = absurd (omega arith)
with_item-other (x ∷ items) zero item k le lt = absurd (omega arith)
with_item-other (x ∷ items) (suc at) item zero le lt = refl
with_item-other (x ∷ items) (suc at) item (suc k) le lt = with_item-other items at item k (omega arith) (omega arith)

-- the file that is made
pub with_item-made : (files : Files) (at : ℕ) (file : List (List ℕ)) → at ≤ length files → file_at (with_item files at file) at ≡ file
with_item-made [] zero file le = refl
with_item-made [] (suc at) file le = absurd (omega arith)
with_item-made (x ∷ files) zero file le = refl
with_item-made (x ∷ files) (suc at) file le = with_item-made files at file (omega arith)

-- a file before it
pub with_item-kept : (files : Files) (at k : ℕ) (file : List (List ℕ)) → k < at → 0 < length (file_at files k) → file_at (with_item files at file) k ≡ file_at files k
with_item-kept [] at k file before some = absurd (omega arith)
with_item-kept (x ∷ files) zero k file before some = absurd (omega arith)
with_item-kept (x ∷ files) (suc at) zero file before some = refl
with_item-kept (x ∷ files) (suc at) (suc k) file before some = with_item-kept files at k file (omega arith) some

pub made_behind : (k file blocks : ℕ) (before disk : Files) → k < file → 0 < length (file_at before k) → Made file blocks before disk → file_at disk k ≡ file_at before k
made_behind k file blocks before disk behind some (inl same) = ap (λ (files : Files). file_at files k) same
made_behind k file blocks before disk behind some (inr is) = ap (λ (files : Files). file_at files k) is ∙ with_item-kept before file k (zero_blocks blocks) behind some

-- a file before it that was stable
pub stable_behind : (k file blocks : ℕ) (old new : HostState) → k < file → 0 < length (file_at old.files k) → IsStable k old → new.files ≡ with_item old.files file (zero_blocks blocks)
    → DiskPasses (Follows (Made file blocks) old) old new → IsStable k new
stable_behind k file blocks old new behind some stable is run disk left =
    let from = follows_now (λ d. inl refl) run disk left in
    let was : file_at from.0 k ≡ file_at old.files k = stable from.0 from.1 in
    made_behind k file blocks from.0 disk behind (subst (λ (f : List (List ℕ)). 0 < length f) (sym was) some) from.2 ∙ was
    ∙ sym (ap (λ (files : Files). file_at files k) is ∙ with_item-kept old.files file k (zero_blocks blocks) behind some)

-- the volumes that are made so far
pub record AreEmptyTo (end blocks : ℕ) (host : HostState) : Type 0 where
  pub zeros : (file : ℕ) → 1 ≤ file → file < end → file_at host.files file ≡ zero_blocks blocks
  pub stable : (file : ℕ) → 1 ≤ file → file < end → IsStable file host

pub empty_more : (file blocks : ℕ) (old new : HostState) → 1 ≤ blocks → file ≤ length old.files → new.files ≡ with_item old.files file (zero_blocks blocks) → IsStable file new
    → DiskPasses (Follows (Made file blocks) old) old new → AreEmptyTo file blocks old → AreEmptyTo (file + 1) blocks new
empty_more file blocks old new some fits is stable run so_far = record {
  zeros = λ k least most. elim (cases_lt k file) [
    | inl before ↦ ap (λ (files : Files). file_at files k) is ∙ with_item-kept old.files file k (zero_blocks blocks) before (long k least before) ∙ so_far.zeros k least before
    | inr past ↦
        let same : k ≡ file = omega arith in
        ap (λ i. file_at new.files i) same ∙ ap (λ (files : Files). file_at files file) is ∙ with_item-made old.files file (zero_blocks blocks) fits
  ];
  stable = λ k least most. elim (cases_lt k file) [
    | inl before ↦ stable_behind k file blocks old new before (long k least before) (so_far.stable k least before) is run
    | inr past ↦
        let same : file ≡ k = omega arith in
        subst (λ i. IsStable i new) same stable
  ];
}
  where
    long : (k : ℕ) → 1 ≤ k → k < file → 0 < length (file_at old.files k)
    long k least before = omega (arith, some, ap length (so_far.zeros k least before), length-replicate {A = List ℕ} blocks zero_block)

pub all_empty : (limits : Limits) (host : HostState) (end : ℕ) → limits.volumes < end → AreEmptyTo end limits.blocks host → AreEmpty limits host
all_empty limits host end past so_far = record {
  zeros = λ file least most. so_far.zeros file least (omega arith);
  stable = λ file least most. so_far.stable file least (omega arith);
}

-- file 0, where it is made itself
pub with_item-zero : (files : Files) (file : List (List ℕ)) → file_at (with_item files 0 file) 0 ≡ file
with_item-zero [] file = refl
with_item-zero (x ∷ files) file = refl

pub zeros_shut : (slot : ℕ) (disk : Files) → file_at disk 0 ≡ zero_blocks (2 + 2 * slot) → AreShut disk
zeros_shut slot disk is First = ap (λ file. is_open (gate_at First file)) is ∙ (zeros_known slot).others
zeros_shut slot disk is Second = ap (λ file. is_open (gate_at Second file)) is ∙ (zeros_known slot).own

pub zeros_no_store : (slot : ℕ) (disk : Files) → file_at disk 0 ≡ zero_blocks (2 + 2 * slot) → IsNoStore disk
zeros_no_store slot disk is = inr (inr (inr (zeros_shut slot disk is)))

pub making_left : (slot : ℕ) (old : HostState) → ((disk : Files) → LeavesNow old disk → IsNoStore disk) → (disk : Files) → Follows (Made 0 (2 + 2 * slot)) old disk → IsNoStore disk
making_left slot old none disk (before, left, inl same) = subst IsNoStore (sym same) (none before left)
making_left slot old none disk (before, left, inr is) = zeros_no_store slot disk (ap (λ files. file_at files 0) is ∙ with_item-zero before (zero_blocks (2 + 2 * slot)))

not_open : (b : Bool) → b ≡ false → b ≡ true → ⊥
not_open b is_false is_true = cc

-- there is no record in a file that was just made
pub zeros_none : (slot : ℕ) (disk : Files) → file_at disk 0 ≡ zero_blocks (2 + 2 * slot) → HasNewest slot None disk
zeros_none slot disk is = record {
  blocks = ap length is ∙ (zeros_known slot).blocks;
  newest_is = ap (newest_in slot) is ∙ (zeros_known slot).wins;
  records = λ half opened. absurd (not_open _ (zeros_shut slot disk is half) opened);
}

none_of : (first second : Bool) (a b : Frame) → newest_of first second a b ≡ None → (first ≡ false) × (second ≡ false)
none_of true true a b none = grind (arith)
none_of true false a b none = cc
none_of false true a b none = cc
none_of false false a b none = (refl, refl)

newest_in_is : (slot : ℕ) (file : List (List ℕ)) → newest_in slot file ≡ newest_of (is_open (gate_at First file)) (is_open (gate_at Second file)) (frame_of (body_at slot First file)) (frame_of (body_at slot Second file))
unfolding newest_in
newest_in_is slot file = refl

-- where no record is the newest, no gate is open
pub none_shut : (slot : ℕ) (disk : Files) → HasNewest slot None disk → AreShut disk
none_shut slot disk has First = (none_of _ _ _ _ (sym (newest_in_is slot (file_at disk 0)) ∙ has.newest_is)).0
none_shut slot disk has Second = (none_of _ _ _ _ (sym (newest_in_is slot (file_at disk 0)) ∙ has.newest_is)).1

pub none_no_store : (slot : ℕ) (disk : Files) → HasNewest slot None disk → IsNoStore disk
none_no_store slot disk has = inr (inr (inr (none_shut slot disk has)))

pub first_rests : (slot : ℕ) (host : HostState) → file_at host.files 0 ≡ zero_blocks (2 + 2 * slot) → IsStable 0 host → Rests slot None host
first_rests slot host zeros stable disk left = zeros_none slot disk (stable disk left ∙ zeros)

-- while the first view is saved
pub first_left : (limits : Limits) (file : ℕ) (host : HostState) → Rests limits.slot None host → AreEmpty limits host
    → (disk : Files) → IsSaving limits.slot file None (frame_for 1 (first_content limits)) host disk → IsNoStore disk ⊎ IsMade limits disk
first_left limits file host rests empty disk (inl left) = inl (none_no_store limits.slot disk (rests disk left))
first_left limits file host rests empty disk (inr (over, inl has)) = inl (none_no_store limits.slot disk has)
first_left limits file host rests empty disk (inr (over, inr has)) = inr (record {
  newest = has;
  zeros = λ k least most. over.elsewhere.others k (λ is. absurd (omega arith)) ∙ empty.stable k least most over.before over.left ∙ empty.zeros k least most;
})

-- the volumes, once it is saved
pub still_empty : (limits : Limits) (file : ℕ) (old new : HostState) → SameElsewhere old.files new.files → ((disk : Files) → LeavesNow new disk → IsSavedOver file old disk)
    → AreEmpty limits old → AreEmpty limits new
still_empty limits file old new same saved empty = record {
  zeros = λ k least most. same.others k (λ is. absurd (omega arith)) ∙ empty.zeros k least most;
  stable = λ k least most disk left.
      let over = saved disk left in
      over.elsewhere.others k (λ is. absurd (omega arith)) ∙ empty.stable k least most over.before over.left ∙ sym (same.others k (λ is. absurd (omega arith)));
}

-- the first view, once it is begun
abbrev pub first_saving : Limits → Saving
first_saving limits = record {
  gate = record { slot = limits.slot; newest = Second; is_open = false; other_open = false; number = 0; broken = false };
  pending = true;
  number = 1;
  bytes = frame_bytes (frame_for 1 (first_content limits));
  file = 1;
}

pub first_begun : (limits : Limits) (view : View) (begun : Saving) → begun ≡ record { gate = view; pending = true; number = view.number + 1; bytes = frame_bytes (frame_for (view.number + 1) (first_content limits)); file = 1 }
    → view ≡ record { slot = limits.slot; newest = Second; is_open = false; other_open = false; number = 0; broken = false } → begun ≡ first_saving limits
first_begun limits view begun is gate =
    is ∙ ap (λ (v : View). record { gate = v; pending = true; number = v.number + 1; bytes = frame_bytes (frame_for (v.number + 1) (first_content limits)); file = 1 }) gate

module _ (limits : Limits) (begun : Saving) (mid new : HostState) (are : AreLimits limits) (is : begun ≡ first_saving limits) (rests : Rests limits.slot None mid) where
  pub first_passes : (old : HostState) → AreEmpty limits mid → DiskPasses IsNoStore old mid
      → ((before : Option Frame) (d : Content) → Rests begun.gate.slot before mid → IsMeta d → d.limits.slot ≡ begun.gate.slot → begun.bytes ≡ frame_bytes (frame_for begun.number d)
      → DiskPasses (IsSaving begun.gate.slot begun.file before (frame_for begun.number d) mid) mid new)
      → DiskPasses (λ left. IsNoStore left ⊎ IsMade limits left) old new
  first_passes old empty so_far moments =
      let content = first_content limits in
      let run = subst (λ (s : Saving). (before : Option Frame) (d : Content) → Rests s.gate.slot before mid → IsMeta d → d.limits.slot ≡ s.gate.slot → s.bytes ≡ frame_bytes (frame_for s.number d)
      → DiskPasses (IsSaving s.gate.slot s.file before (frame_for s.number d) mid) mid new) is moments in
      disk_goes_on {P = λ left. IsNoStore left ⊎ IsMade limits left} (disk_weaker so_far (λ disk none. inl none))
      (run None content rests (first_lawful limits are) refl refl) (first_left limits 1 mid rests empty)

  pub first_now : ((before : Option Frame) (d : Content) → Rests begun.gate.slot before mid → IsMeta d → d.limits.slot ≡ begun.gate.slot → begun.bytes ≡ frame_bytes (frame_for begun.number d)
      → (left : Files) → LeavesNow new left → IsSavedOver begun.file mid left × HasNewest begun.gate.slot (Some (frame_for begun.number d)) left)
      → (left : Files) → LeavesNow new left → IsSavedOver 1 mid left × HasNewest limits.slot (Some (frame_for 1 (first_content limits))) left
  first_now saved =
      subst (λ (s : Saving). (before : Option Frame) (d : Content) → Rests s.gate.slot before mid → IsMeta d → d.limits.slot ≡ s.gate.slot → s.bytes ≡ frame_bytes (frame_for s.number d)
      → (left : Files) → LeavesNow new left → IsSavedOver s.file mid left × HasNewest s.gate.slot (Some (frame_for s.number d)) left) is saved None (first_content limits) rests (first_lawful limits are) refl refl
