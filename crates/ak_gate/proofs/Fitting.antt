-- A gate and the disk below it, over the device calls that its own calls make.
use Rattle.std.proofs.Common.{◌≡◌, ◌≢◌, ◌⊎◌, inl, inr, ⊎_elim, ℕ, ◌+◌, ◌<◌, true, false, List, slice_set, slice_index, refl, sym, ◌∙◌, ap, subst, arith, Some}
use Rattle.std.proofs.lemmas.Bool.Decides.{nat_tests}
use Rattle.ak_host.specs.Files.{Files, MayBeTorn, file_at, with_block}
use Rattle.ak_host.specs.Moments.{HostState, LeavesNow, IsStable, DiskPasses, PortPasses}
use Rattle.ak_host.specs.Marks.{Mark}
use Rattle.ak_host.specs.Calls.{Follows}
use Rattle.ak_host.proofs.Items.{file_at-with_block_same, may_be_torn_file, may_be_torn_other}
use Rattle.ak_host.proofs.Passing.{disk_now, follows_now, ports_leave}
use Rattle.ak_gate.specs.Slots.{other, gate_index, body_index, body_at, is_open, frame_of, newest_in, newest}
use Rattle.ak_gate.specs.View.{View}
use Rattle.ak_gate.specs.Fits.{Stands, Knows, Fits, other_frame}
use Rattle.ak_gate.specs.Written.{Wrote, IsTornAt}
use Rattle.ak_gate.proofs.Newest.{gate_leaves_body, stands_same, stands_from, stands_newest, closing, closed_knows, opening, opened_knows, stands_knows, body_stands}

-- a disk that a stop leaves has the newest record
pub left_newest : (view : View) (host : HostState) → Fits view host → (disk : Files) → LeavesNow host disk → newest view.slot disk ≡ newest view.slot host.files
left_newest view host fits disk left = stands_newest view (file_at host.files 0) fits.knows (file_at disk 0) (fits.stands disk left)

-- where file 0 is stable, it is enough to know it as it reads
pub fits_stable : (view : View) (host : HostState) → Knows view (file_at host.files 0) → IsStable 0 host → Fits view host
fits_stable view host knows stable = record {
  knows = knows;
  stands = λ disk left. subst (Stands view (file_at host.files 0)) (sym (stable disk left)) (stands_same view (file_at host.files 0));
}

-- the block that may be torn, by another name of its index
pub torn_at : (old : HostState) (index k : ℕ) → index ≡ k → (disk : Files) → Follows (MayBeTorn 0 index) old disk → Follows (MayBeTorn 0 k) old disk
torn_at old index k at disk follows = subst (λ i. Follows (MayBeTorn 0 i) old disk) at follows

-- a gate that is written once file 0 is synced
pub revealing_left : (old mid : HostState) (index k : ℕ) → index ≡ k → mid.files ≡ old.files → IsStable 0 mid → (disk : Files) → Follows (MayBeTorn 0 index) mid disk → IsTornAt k (file_at old.files 0) disk
revealing_left old mid index k at same stable disk (before, left, inl is) = inl (ap (λ files. file_at files 0) is ∙ stable before left ∙ ap (λ files. file_at files 0) same)
revealing_left old mid index k at same stable disk (before, left, inr torn) = inr (
  torn.block,
  torn.any_bytes,
  ap (λ files. file_at files 0) torn.is ∙ file_at-with_block_same before 0 index torn.block
      ∙ (λ i. slice_set ((stable before left ∙ ap (λ files. file_at files 0) same) i) (at i) torn.block),
)

pub open_first : (block : List ℕ) → slice_index block 0 ≡ 1 → is_open block ≡ true
open_first block is = grind (arith, nat_tests)

pub closed_first : (block : List ℕ) → slice_index block 0 ≡ 0 → is_open block ≡ false
closed_first block is = grind (arith, nat_tests)

module _ (view : View) (old : HostState) (fits : Fits view old) where
  file : List (List ℕ)
  file = file_at old.files 0

  -- the other gate, where it was open, may be torn
  pub closing_left : (index : ℕ) → index ≡ gate_index (other view.newest) → view.other_open ≡ true → (disk : Files) → Follows (MayBeTorn 0 index) old disk → newest view.slot disk ≡ newest view.slot old.files
  closing_left index at was_open disk (before, left, torn) =
      let same = (fits.stands before left).all_same was_open in
      elim (may_be_torn_file 0 index before disk torn) [
        | inl is ↦ ap (newest_in view.slot) (is ∙ same)
        | inr (block, is) ↦ ap (newest_in view.slot) (is ∙ (λ i. slice_set (same i) (at i) block)) ∙ closing view (file_at old.files 0) fits.knows block was_open
      ]

  -- and once it is closed, the gate fits again
  pub closed_fits : (new : HostState) (index : ℕ) → index ≡ gate_index (other view.newest) → view.other_open ≡ true → Wrote index 0 old.files new.files → IsStable 0 new → Fits (record view { other_open = false }) new
  closed_fits new index at was_open wrote stable =
      let is = ap (λ files. file_at files 0) wrote.is ∙ file_at-with_block_same old.files 0 index wrote.block ∙ ap (λ i. slice_set (file_at old.files 0) i wrote.block) at in
      fits_stable _ new (subst (Knows (record view { other_open = false })) (sym is) (closed_knows view (file_at old.files 0) fits.knows wrote.block (closed_first wrote.block wrote.first_byte) was_open)) stable

  -- a block of the other body may be torn
  pub body_left : (index i : ℕ) → index ≡ body_index view.slot (other view.newest) + i → view.other_open ≡ false → i < view.slot → (disk : Files) → Follows (MayBeTorn 0 index) old disk
      → Stands view (file_at old.files 0) (file_at disk 0)
  body_left index i at closed within disk (before, left, torn) =
      let stands = fits.stands before left in
      elim (may_be_torn_file 0 index before disk torn) [
        | inl is ↦ subst (Stands view (file_at old.files 0)) (sym is) stands
        | inr (block, is) ↦ subst (Stands view (file_at old.files 0)) (sym (is ∙ ap (λ k. slice_set (file_at before 0) k block) at)) (body_stands view (file_at old.files 0) fits.knows (file_at before 0) i block closed within stands)
      ]

  pub body_newest : (index i : ℕ) → index ≡ body_index view.slot (other view.newest) + i → view.other_open ≡ false → i < view.slot → (disk : Files) → Follows (MayBeTorn 0 index) old disk
      → newest view.slot disk ≡ newest view.slot old.files
  body_newest index i at closed within disk follows = stands_newest view (file_at old.files 0) fits.knows (file_at disk 0) (body_left index i at closed within disk follows)

  pub body_fits : (new : HostState) (index i : ℕ) (block : List ℕ) → index ≡ body_index view.slot (other view.newest) + i → view.other_open ≡ false → i < view.slot → new.files ≡ with_block old.files 0 index block
      → DiskPasses (Follows (MayBeTorn 0 index) old) old new → Fits view new
  body_fits new index i block at closed within is run =
      let now = ap (λ files. file_at files 0) is ∙ file_at-with_block_same old.files 0 index block ∙ ap (λ k. slice_set (file_at old.files 0) k block) at in
      let stands = subst (Stands view (file_at old.files 0)) (sym now) (body_stands view (file_at old.files 0) fits.knows (file_at old.files 0) i block closed within (stands_same view (file_at old.files 0))) in
      record {
        knows = stands_knows view (file_at old.files 0) fits.knows (file_at new.files 0) stands;
        stands = λ disk left. stands_from view (file_at old.files 0) (file_at new.files 0) (file_at disk 0) closed stands (body_left index i at closed within disk (follows_now (λ d. inl refl) run disk left));
      }

  -- the other gate, once its body is synced, may be torn
  pub opening_left : (mid : HostState) (index number : ℕ) → index ≡ gate_index (other view.newest) → mid.files ≡ old.files → IsStable 0 mid → (other_frame view old.files).number ≡ number → view.number < number
      → (disk : Files) → Follows (MayBeTorn 0 index) mid disk
      → (newest view.slot disk ≡ newest view.slot old.files) ⊎ (newest view.slot disk ≡ Some (other_frame view old.files))
  opening_left mid index number at same stable is above disk (before, left, torn) =
      let was = stable before left ∙ ap (λ files. file_at files 0) same in
      elim (may_be_torn_file 0 index before disk torn) [
        | inl unchanged ↦ inl (ap (newest_in view.slot) (unchanged ∙ was))
        | inr (block, changed) ↦
            let here = changed ∙ (λ i. slice_set (was i) (at i) block) in
            ⊎_elim (λ first. inl (ap (newest_in view.slot) here ∙ first)) (λ second. inr (ap (newest_in view.slot) here ∙ second))
            (opening view (file_at old.files 0) fits.knows block (λ own. omega (arith, fits.knows.number own, is, above)))
      ]

  pub opened_fits : (mid new : HostState) (index number : ℕ) → index ≡ gate_index (other view.newest) → mid.files ≡ old.files → (other_frame view old.files).number ≡ number → view.number < number
      → Wrote index 1 mid.files new.files → IsStable 0 new
      → Fits (record { slot = view.slot; newest = other view.newest; is_open = true; other_open = view.is_open; number = number; broken = view.broken }) new
  opened_fits mid new index number at same is above wrote stable =
      let now = ap (λ files. file_at files 0) (wrote.is ∙ (λ i. with_block (same i) 0 (at i) wrote.block)) ∙ file_at-with_block_same old.files 0 (gate_index (other view.newest)) wrote.block in
      fits_stable _ new (
      subst (Knows _) (sym now) (opened_knows view (file_at old.files 0) fits.knows wrote.block number (open_first wrote.block wrote.first_byte) is (λ own. omega (arith, fits.knows.number own, above)))
      ) stable

  -- once revealed, a stop leaves the record that was in the body
  pub revealed : (mid new : HostState) (index number : ℕ) → index ≡ gate_index (other view.newest) → mid.files ≡ old.files → Wrote index 1 mid.files new.files
      → Fits (record { slot = view.slot; newest = other view.newest; is_open = true; other_open = view.is_open; number = number; broken = view.broken }) new
      → (disk : Files) → LeavesNow new disk → newest view.slot disk ≡ Some (other_frame view old.files)
  revealed mid new index number at same wrote fits_new disk left =
      let now = ap (λ files. file_at files 0) (wrote.is ∙ (λ i. with_block (same i) 0 (at i) wrote.block)) ∙ file_at-with_block_same old.files 0 (gate_index (other view.newest)) wrote.block in
      left_newest _ new fits_new disk left ∙ fits_new.knows.wins
      ∙ ap (λ f. Some (frame_of (body_at view.slot (other view.newest) f))) now
      ∙ ap (λ body. Some (frame_of body)) (gate_leaves_body view.slot (other view.newest) (other view.newest) (file_at old.files 0) wrote.block)

-- calls that leave file 0

elsewhere : (view : View) (old new : HostState) → Fits view old → file_at new.files 0 ≡ file_at old.files 0
    → ((disk : Files) → LeavesNow new disk → (before : Files) × LeavesNow old before × (file_at disk 0 ≡ file_at before 0)) → Fits view new
elsewhere view old new fits same follows = record {
  knows = subst (Knows view) (sym same) fits.knows;
  stands = λ disk left.
      let from = follows disk left in
      subst (λ f. Stands view f (file_at disk 0)) (sym same) (subst (Stands view (file_at old.files 0)) (sym from.2) (fits.stands from.0 from.1));
}

-- a gate still fits after a write of another file, whether it failed or not
pub fits_after_write : (view : View) (old new : HostState) (file index : ℕ) → 0 ≢ file → Fits view old → file_at new.files 0 ≡ file_at old.files 0
    → DiskPasses (Follows (MayBeTorn file index) old) old new → Fits view new
fits_after_write view old new file index other fits same run = elsewhere view old new fits same (λ disk left.
    let from = follows_now (λ d. inl refl) run disk left in
    (from.0, from.1, may_be_torn_other file index from.0 disk 0 other from.2))

-- and after a read, and a sync of any file
pub fits_after_no_write : (view : View) (old new : HostState) → Fits view old → new.files ≡ old.files → DiskPasses (LeavesNow old) old new → Fits view new
fits_after_no_write view old new fits same run = elsewhere view old new fits (ap (λ files. file_at files 0) same) (λ disk left.
    (disk, disk_now run (λ d was. was) disk left, refl))

-- and after calls of ports
pub fits_after_ports : {M : Mark → Type 0} (view : View) (old new : HostState) → Fits view old → new.files ≡ old.files → PortPasses M old new → Fits view new
fits_after_ports view old new fits same run = elsewhere view old new fits (ap (λ files. file_at files 0) same) (λ disk left. (disk, ports_leave run disk left, refl))
