-- Which record is the newest while a gate or the other body is written.
use Rattle.std.proofs.Common.{◌≡◌, ◌≢◌, ◌⊎◌, inl, inr, ℕ, zero, suc, slice_index_or, slice_index, replicate, ◌+◌, ◌*◌, ◌-◌, ◌<◌, ◌≤◌, Bool, true, false, List, [], length, take, drop, slice_set, refl, sym, ◌∙◌, ap, subst, arith, Some, Option, get_or-set_same, get_or-set_other}
use Rattle.std.proofs.lemmas.Bool.{cases_Bool}
use Rattle.std.proofs.lemmas.Bool.Decides.{nat_tests}
use Rattle.std.proofs.lemmas.List.{length-set, take-set-le, drop-set-lt, drop-set-add}
use Rattle.ak_base.proofs.Basics.{not_both}
use Rattle.ak_host.specs.Files.{zero_block, zero_blocks}
use Rattle.ak_gate.specs.declared.half.Half.{Half}
use Rattle.ak_gate.specs.declared.half.Half.TheVariants.{First, Second}
use Rattle.ak_gate.specs.Slots.{other, gate_index, body_index, gate_at, body_at, is_open, Frame, frame_of, newest_of, newest_in, current}
use Rattle.ak_gate.specs.View.{View}
use Rattle.ak_gate.specs.Fits.{Stands, Knows}

-- the newest record as one slot sees it
abbrev seen_from : Half → Bool → Bool → Frame → Frame → Option Frame
seen_from First own others a b = newest_of own others a b
seen_from Second own others a b = newest_of others own b a

newest_by : (slot : ℕ) (half : Half) (file : List (List ℕ))
    → newest_in slot file ≡ seen_from half (is_open (gate_at half file)) (is_open (gate_at (other half) file)) (frame_of (body_at slot half file)) (frame_of (body_at slot (other half) file))
unfolding newest_in
newest_by slot First file = refl
newest_by slot Second file = refl

seen_closed : (half : Half) (own : Bool) (a b : Frame) → seen_from half own false a b ≡ current own a
seen_closed First true a b = refl
seen_closed First false a b = refl
seen_closed Second true a b = refl
seen_closed Second false a b = refl

seen_newer : (half : Half) (own : Bool) (a b : Frame) → (own ≡ true → a.number < b.number) → seen_from half own true a b ≡ Some b
seen_newer First true a b newer = let lt : a.number < b.number = newer refl in grind (arith, nat_tests)
seen_newer First false a b newer = refl
seen_newer Second true a b newer = let lt : a.number < b.number = newer refl in grind (arith, nat_tests)
seen_newer Second false a b newer = refl

-- what a write of a block leaves

pub gate_kept : (half : Half) (file : List (List ℕ)) (at : ℕ) (block : List ℕ) → at ≢ gate_index half → gate_at half (slice_set file at block) ≡ gate_at half file
gate_kept half file at block not = get_or-set_other file at (gate_index half) block [] (λ same. not (sym same))

pub gate_written : (half : Half) (file : List (List ℕ)) (block : List ℕ) → gate_index half < length file → gate_at half (slice_set file (gate_index half) block) ≡ block
gate_written half file block within = get_or-set_same file (gate_index half) block [] within

body_before : (slot : ℕ) (half : Half) (file : List (List ℕ)) (at : ℕ) (block : List ℕ) → at < body_index slot half → body_at slot half (slice_set file at block) ≡ body_at slot half file
body_before slot half file at block lt = ap (λ (l : List (List ℕ)). take slot l) (drop-set-lt (body_index slot half) file at block lt)

body_behind : (slot : ℕ) (half : Half) (file : List (List ℕ)) (at : ℕ) (block : List ℕ) → body_index slot half + slot ≤ at → body_at slot half (slice_set file at block) ≡ body_at slot half file
body_behind slot half file at block le =
    let m = body_index slot half in
    let k = at - m in
    let is : m + k ≡ at = omega arith in
    let past : slot ≤ k = omega arith in
    ap (λ i. take slot (drop m (slice_set file i block))) (sym is) ∙ ap (λ (l : List (List ℕ)). take slot l) (drop-set-add m file k block) ∙ take-set-le slot (drop m file) k block past

-- a gate lies before both bodies
pub gate_leaves_body : (slot : ℕ) (half gate : Half) (file : List (List ℕ)) (block : List ℕ) → body_at slot half (slice_set file (gate_index gate) block) ≡ body_at slot half file
gate_leaves_body slot First First file block = body_before slot First file 0 block (omega arith)
gate_leaves_body slot First Second file block = body_before slot First file 1 block (omega arith)
gate_leaves_body slot Second First file block = body_before slot Second file 0 block (omega arith)
gate_leaves_body slot Second Second file block = body_before slot Second file 1 block (omega arith)

-- the other body's blocks are none of this one's, and no gate
pub other_body_leaves : (slot : ℕ) (half : Half) (file : List (List ℕ)) (i : ℕ) (block : List ℕ) → i < slot → body_at slot half (slice_set file (body_index slot (other half) + i) block) ≡ body_at slot half file
other_body_leaves slot First file i block lt = body_behind slot First file (2 + slot + i) block (omega arith)
other_body_leaves slot Second file i block lt = body_before slot Second file (2 + i) block (omega arith)

pub body_leaves_gate : (slot : ℕ) (body half : Half) (file : List (List ℕ)) (i : ℕ) (block : List ℕ) → gate_at half (slice_set file (body_index slot body + i) block) ≡ gate_at half file
body_leaves_gate slot First First file i block = gate_kept First file _ block (λ same. absurd (omega arith))
body_leaves_gate slot First Second file i block = gate_kept Second file _ block (λ same. absurd (omega arith))
body_leaves_gate slot Second First file i block = gate_kept First file _ block (λ same. absurd (omega arith))
body_leaves_gate slot Second Second file i block = gate_kept Second file _ block (λ same. absurd (omega arith))

other_index : (half : Half) → gate_index (other half) ≢ gate_index half
other_index First same = absurd (omega arith)
other_index Second same = absurd (omega arith)

other_other : (half : Half) → other (other half) ≡ half
other_other First = refl
other_other Second = refl

gate_within : (half : Half) (slot : ℕ) (file : List (List ℕ)) → length file ≡ 2 + 2 * slot → gate_index half < length file
gate_within First slot file is = omega arith
gate_within Second slot file is = omega arith

pub stands_same : (view : View) (file : List (List ℕ)) → Stands view file file
stands_same view file = record { length_same = refl; gate_same = refl; other_same = refl; body_same = refl; all_same = λ opened. refl }

module _ (view : View) (file : List (List ℕ)) (knows : Knows view file) where
  -- what a stop leaves has the same newest record
  pub stands_newest : (left : List (List ℕ)) → Stands view file left → newest_in view.slot left ≡ newest_in view.slot file
  stands_newest left stands = elim (cases_Bool view.other_open) [
    | inl is_open ↦ ap (newest_in view.slot) (stands.all_same is_open)
    | inr closed ↦
        let shut : is_open (gate_at (other view.newest) left) ≡ false = ap is_open stands.other_same ∙ knows.others ∙ closed in
        let own : is_open (gate_at view.newest left) ≡ view.is_open = ap is_open stands.gate_same ∙ knows.own in
        newest_by view.slot view.newest left
        ∙ (λ i. seen_from view.newest (own i) (shut i) (frame_of (stands.body_same i)) (frame_of (body_at view.slot (other view.newest) left)))
        ∙ seen_closed view.newest view.is_open _ _
        ∙ sym knows.wins
  ]

  -- the other gate, while it is written

  gate_own : (block : List ℕ) → is_open (gate_at view.newest (slice_set file (gate_index (other view.newest)) block)) ≡ view.is_open
  gate_own block = ap is_open (gate_kept view.newest file (gate_index (other view.newest)) block (other_index view.newest)) ∙ knows.own

  seen_torn : (block : List ℕ) → newest_in view.slot (slice_set file (gate_index (other view.newest)) block)
      ≡ seen_from view.newest view.is_open (is_open (gate_at (other view.newest) (slice_set file (gate_index (other view.newest)) block)))
      (frame_of (body_at view.slot view.newest file)) (frame_of (body_at view.slot (other view.newest) file))
  seen_torn block =
      newest_by view.slot view.newest _
      ∙ (λ i. seen_from view.newest (gate_own block i) (is_open (gate_at (other view.newest) (slice_set file (gate_index (other view.newest)) block)))
      (frame_of (gate_leaves_body view.slot view.newest (other view.newest) file block i)) (frame_of (gate_leaves_body view.slot (other view.newest) (other view.newest) file block i)))

  seen_now : seen_from view.newest view.is_open view.other_open (frame_of (body_at view.slot view.newest file)) (frame_of (body_at view.slot (other view.newest) file)) ≡ newest_in view.slot file
  seen_now = (λ i. seen_from view.newest (sym knows.own i) (sym knows.others i) (frame_of (body_at view.slot view.newest file)) (frame_of (body_at view.slot (other view.newest) file)))
      ∙ sym (newest_by view.slot view.newest file)

  -- any bytes in the other gate, where it was open, leave the newest record
  pub closing : (block : List ℕ) → view.other_open ≡ true → newest_in view.slot (slice_set file (gate_index (other view.newest)) block) ≡ newest_in view.slot file
  closing block was_open = elim (cases_Bool (is_open (gate_at (other view.newest) (slice_set file (gate_index (other view.newest)) block)))) [
    | inl opened ↦
        seen_torn block
        ∙ ap (λ x. seen_from view.newest view.is_open x (frame_of (body_at view.slot view.newest file)) (frame_of (body_at view.slot (other view.newest) file))) (opened ∙ sym was_open)
        ∙ seen_now
    | inr closed ↦
        seen_torn block
        ∙ ap (λ x. seen_from view.newest view.is_open x (frame_of (body_at view.slot view.newest file)) (frame_of (body_at view.slot (other view.newest) file))) closed
        ∙ seen_closed view.newest view.is_open _ _
        ∙ sym knows.wins
  ]

  -- with the other gate closed on the disk
  pub closed_knows : (block : List ℕ) → is_open block ≡ false → view.other_open ≡ true
      → Knows (record view { other_open = false }) (slice_set file (gate_index (other view.newest)) block)
  closed_knows block shut was_open = record {
    blocks = length-set file _ block ∙ knows.blocks;
    own = gate_own block;
    others = ap is_open (gate_written (other view.newest) file block (gate_within (other view.newest) view.slot file knows.blocks)) ∙ shut;
    wins = closing block was_open ∙ knows.wins ∙ ap (λ body. current view.is_open (frame_of body)) (sym (gate_leaves_body view.slot view.newest (other view.newest) file block));
    number = λ opened. ap (λ body. (frame_of body).number) (gate_leaves_body view.slot view.newest (other view.newest) file block) ∙ knows.number opened;
  }

  -- any bytes in the other gate, where it was closed, leave the newest record or the one in the other body
  pub opening : (block : List ℕ) → (view.is_open ≡ true → (frame_of (body_at view.slot view.newest file)).number < (frame_of (body_at view.slot (other view.newest) file)).number)
      → (newest_in view.slot (slice_set file (gate_index (other view.newest)) block) ≡ newest_in view.slot file)
      ⊎ (newest_in view.slot (slice_set file (gate_index (other view.newest)) block) ≡ Some (frame_of (body_at view.slot (other view.newest) file)))
  opening block newer = elim (cases_Bool (is_open (gate_at (other view.newest) (slice_set file (gate_index (other view.newest)) block)))) [
    | inl opened ↦ inr (opened_newest block newer opened)
    | inr closed ↦ inl (
        seen_torn block
        ∙ ap (λ x. seen_from view.newest view.is_open x (frame_of (body_at view.slot view.newest file)) (frame_of (body_at view.slot (other view.newest) file))) closed
        ∙ seen_closed view.newest view.is_open _ _
        ∙ sym knows.wins)
  ]
    where
      opened_newest : (block : List ℕ) → (view.is_open ≡ true → (frame_of (body_at view.slot view.newest file)).number < (frame_of (body_at view.slot (other view.newest) file)).number)
          → is_open (gate_at (other view.newest) (slice_set file (gate_index (other view.newest)) block)) ≡ true
          → newest_in view.slot (slice_set file (gate_index (other view.newest)) block) ≡ Some (frame_of (body_at view.slot (other view.newest) file))
      opened_newest block newer opened =
          seen_torn block
          ∙ ap (λ x. seen_from view.newest view.is_open x (frame_of (body_at view.slot view.newest file)) (frame_of (body_at view.slot (other view.newest) file))) opened
          ∙ seen_newer view.newest view.is_open _ _ newer

  -- with the other gate open on the disk
  pub opened_knows : (block : List ℕ) (number : ℕ) → is_open block ≡ true → (frame_of (body_at view.slot (other view.newest) file)).number ≡ number
      → (view.is_open ≡ true → (frame_of (body_at view.slot view.newest file)).number < number)
      → Knows (record { slot = view.slot; newest = other view.newest; is_open = true; other_open = view.is_open; number = number; broken = view.broken }) (slice_set file (gate_index (other view.newest)) block)
  opened_knows block number opened is newer = record {
    blocks = length-set file _ block ∙ knows.blocks;
    own = written;
    others = ap (λ h. is_open (gate_at h (slice_set file (gate_index (other view.newest)) block))) (other_other view.newest) ∙ gate_own block;
    wins =
        seen_torn block
        ∙ ap (λ x. seen_from view.newest view.is_open x (frame_of (body_at view.slot view.newest file)) (frame_of (body_at view.slot (other view.newest) file))) written
        ∙ seen_newer view.newest view.is_open _ _ (λ own. subst (λ n. (frame_of (body_at view.slot view.newest file)).number < n) (sym is) (newer own))
        ∙ ap (λ body. Some (frame_of body)) (sym (gate_leaves_body view.slot (other view.newest) (other view.newest) file block));
    number = λ own. ap (λ body. (frame_of body).number) (gate_leaves_body view.slot (other view.newest) (other view.newest) file block) ∙ is;
  }
    where
      written : is_open (gate_at (other view.newest) (slice_set file (gate_index (other view.newest)) block)) ≡ true
      written = ap is_open (gate_written (other view.newest) file block (gate_within (other view.newest) view.slot file knows.blocks)) ∙ opened

  -- while the other gate is closed, what its body holds doesn't matter

  pub stands_knows : (left : List (List ℕ)) → Stands view file left → Knows view left
  stands_knows left stands = record {
    blocks = stands.length_same ∙ knows.blocks;
    own = ap is_open stands.gate_same ∙ knows.own;
    others = ap is_open stands.other_same ∙ knows.others;
    wins = stands_newest left stands ∙ knows.wins ∙ ap (λ body. current view.is_open (frame_of body)) (sym stands.body_same);
    number = λ opened. ap (λ body. (frame_of body).number) stands.body_same ∙ knows.number opened;
  }

  pub body_stands : (left : List (List ℕ)) (i : ℕ) (block : List ℕ) → view.other_open ≡ false → i < view.slot → Stands view file left
      → Stands view file (slice_set left (body_index view.slot (other view.newest) + i) block)
  body_stands left i block closed within stands = record {
    length_same = length-set left _ block ∙ stands.length_same;
    gate_same = body_leaves_gate view.slot (other view.newest) view.newest left i block ∙ stands.gate_same;
    other_same = body_leaves_gate view.slot (other view.newest) (other view.newest) left i block ∙ stands.other_same;
    body_same = other_body_leaves view.slot view.newest left i block within ∙ stands.body_same;
    all_same = λ opened. absurd (not_both view.other_open opened closed);
  }

-- from what a stop leaves to the file as it reads, and to what a stop leaves else
pub stands_from : (view : View) (file new left : List (List ℕ)) → view.other_open ≡ false → Stands view file new → Stands view file left → Stands view new left
stands_from view file new left closed now stands = record {
  length_same = stands.length_same ∙ sym now.length_same;
  gate_same = stands.gate_same ∙ sym now.gate_same;
  other_same = stands.other_same ∙ sym now.other_same;
  body_same = stands.body_same ∙ sym now.body_same;
  all_same = λ opened. absurd (not_both view.other_open opened closed);
}

-- a file of zero blocks has no record

zero_closed : is_open zero_block ≡ false
unfolding zero_block
zero_closed = refl

length-zero_blocks : (n : ℕ) → length (zero_blocks n) ≡ n
length-zero_blocks zero = refl
length-zero_blocks (suc n) = ap suc (length-zero_blocks n)

zero_at : (n k : ℕ) → k < n → slice_index_or (zero_blocks n) k [] ≡ zero_block
zero_at zero k lt = absurd (omega arith)
zero_at (suc n) zero lt = refl
zero_at (suc n) (suc k) lt = zero_at n k (omega arith)

zero_gate : (half : Half) (slot : ℕ) → is_open (gate_at half (zero_blocks (2 + 2 * slot))) ≡ false
zero_gate First slot = ap is_open (zero_at (2 + 2 * slot) 0 (omega arith)) ∙ zero_closed
zero_gate Second slot = ap is_open (zero_at (2 + 2 * slot) 1 (omega arith)) ∙ zero_closed

pub zeros_known : (slot : ℕ) → Knows (record { slot = slot; newest = Second; is_open = false; other_open = false; number = 0; broken = false }) (zero_blocks (2 + 2 * slot))
zeros_known slot =
    let file = zero_blocks (2 + 2 * slot) in
    record {
      blocks = length-zero_blocks (2 + 2 * slot);
      own = zero_gate Second slot;
      others = zero_gate First slot;
      wins = newest_by slot Second file
          ∙ (λ i. seen_from Second (zero_gate Second slot i) (zero_gate First slot i) (frame_of (body_at slot Second file)) (frame_of (body_at slot First file)))
          ∙ seen_closed Second false (frame_of (body_at slot Second file)) (frame_of (body_at slot First file));
      number = λ opened. cc (opened);
    }

-- the block of a gate

zeros_at : (n k : ℕ) → slice_index (replicate n 0) k ≡ 0
zeros_at zero k = refl
zeros_at (suc n) zero = refl
zeros_at (suc n) (suc k) = zeros_at n k

pub gate_first : (first : ℕ) → slice_index (slice_set (replicate 4096 0) 0 first) 0 ≡ first
gate_first first = refl

pub gate_zeros : (first k : ℕ) → 0 < k → slice_index (slice_set (replicate 4096 0) 0 first) k ≡ 0
gate_zeros first k behind = get_or-set_other (replicate 4096 0) 0 k first 0 (λ same. absurd (omega arith)) ∙ zeros_at 4096 k
