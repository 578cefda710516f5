-- The slot of the newest record, from what is read of both.
use Rattle.std.proofs.Common.{◌≡◌, inl, inr, ℕ, ◌+◌, ◌*◌, [], ◌∷◌, length, map, slice_index, true, false, List, Option, Some, None, refl, sym, ◌∙◌, ap, subst, arith}
use Rattle.std.specs.Prelude.{MatchOption, nat_le, if◌then◌else◌}
use Rattle.std.proofs.lemmas.Bool.{cases_Bool}
use Rattle.ak_host.specs.Files.{Files, file_at}
use Rattle.ak_gate.specs.Fits.{Knows}
use Rattle.ak_gate.specs.Opening.{IsHeadOf, IsBadSlot, IsFound, newer_of}
use Rattle.ak_gate.specs.Slots.{gate_at, body_at, is_open, Frame, frame_of, newest_of, newest_in}
use Rattle.ak_gate.specs.declared.half.Half.{Half}
use Rattle.ak_gate.specs.declared.half.Half.TheVariants.{First, Second}
use Rattle.ak_gate.specs.declared.opening.Found.{Found}
use Rattle.ak_gate.specs.declared.opening.Opened.{Opened}

abbrev with_both : Half → Opened → Found
with_both half head = record { half = half; head = head; other_open = true }

abbrev pub WasRead : ℕ → Half → List (List ℕ) → Option Opened → Type 0
WasRead slot half file head = MatchOption head (is_open (gate_at half file) ≡ false) (IsHeadOf slot half file)

-- an open slot whose head was read is not bad, and a closed one isn't either
pub not_bad : (slot : ℕ) (half : Half) (file : List (List ℕ)) (head : Option Opened) → WasRead slot half file head → IsBadSlot slot half file → ⊥
not_bad slot half file None closed bad = let opened = bad.opened in cc (closed, opened)
not_bad slot half file (Some head) is_head bad = absurd (omega (arith, is_head.good, is_head.length_is, bad.bad))

none_bad : (slot : ℕ) (file : List (List ℕ)) (first second : Option Opened) → WasRead slot First file first → WasRead slot Second file second → (half : Half) → IsBadSlot slot half file → ⊥
none_bad slot file first second one two First = not_bad slot First file first one
none_bad slot file first second one two Second = not_bad slot Second file second two

some_same : {A : Type 0} (x y : A) → Some x ≡ Some y → x ≡ y
some_same x y same = cc

module _ (slot : ℕ) (file : List (List ℕ)) where
  abbrev frame : Half → Frame
  frame half = frame_of (body_at slot half file)

  wins_by : newest_in slot file ≡ newest_of (is_open (gate_at First file)) (is_open (gate_at Second file)) (frame First) (frame Second)
  unfolding newest_in
  wins_by = refl

  pub found_is : (first second : Option Opened) (found : Found) → WasRead slot First file first → WasRead slot Second file second → newer_of first second ≡ Some found → IsFound slot file found
  found_is None None found one two same = cc (same)
  found_is (Some a) None found one two same = subst (IsFound slot file) (some_same _ found same) (record {
    head = one;
    others = two;
    wins = wins_by ∙ (λ i. newest_of (one.opened i) (two i) (frame First) (frame Second));
    none_bad = none_bad slot file (Some a) None one two;
  })
  found_is None (Some b) found one two same = subst (IsFound slot file) (some_same _ found same) (record {
    head = two;
    others = one;
    wins = wins_by ∙ (λ i. newest_of (one i) (two.opened i) (frame First) (frame Second));
    none_bad = none_bad slot file None (Some b) one two;
  })
  found_is (Some a) (Some b) found one two same = elim (cases_Bool (nat_le b.number a.number)) [
    | inl le ↦
        let is : Some (with_both First a) ≡ Some found = sym (ap (λ t. if t then Some (with_both First a) else Some (with_both Second b)) le) ∙ same in
        subst (IsFound slot file) (some_same (with_both First a) found is) (record {
          head = one;
          others = two.opened;
          wins = both ∙ ap (λ t. if t then Some (frame First) else Some (frame Second)) (numbers ∙ le);
          none_bad = none_bad slot file (Some a) (Some b) one two;
        })
    | inr gt ↦
        let is : Some (with_both Second b) ≡ Some found = sym (ap (λ t. if t then Some (with_both First a) else Some (with_both Second b)) gt) ∙ same in
        subst (IsFound slot file) (some_same (with_both Second b) found is) (record {
          head = two;
          others = one.opened;
          wins = both ∙ ap (λ t. if t then Some (frame First) else Some (frame Second)) (numbers ∙ gt);
          none_bad = none_bad slot file (Some a) (Some b) one two;
        })
  ]
    where
      both : newest_in slot file ≡ (if nat_le (frame Second).number (frame First).number then Some (frame First) else Some (frame Second))
      both = wins_by ∙ (λ i. newest_of (one.opened i) (two.opened i) (frame First) (frame Second))

      numbers : nat_le (frame Second).number (frame First).number ≡ nat_le b.number a.number
      numbers = λ i. nat_le (sym two.number_is i) (sym one.number_is i)

  -- no gate is open
  pub none_open : (first second : Option Opened) → WasRead slot First file first → WasRead slot Second file second → newer_of first second ≡ None → (half : Half) → is_open (gate_at half file) ≡ false
  none_open None None one two same First = one
  none_open None None one two same Second = two
  none_open (Some a) None one two same half = cc (same)
  none_open None (Some b) one two same half = cc (same)
  none_open (Some a) (Some b) one two same half = elim (cases_Bool (nat_le b.number a.number)) [
    | inl le ↦ let is = sym (ap (λ t. if t then Some (with_both First a) else Some (with_both Second b)) le) ∙ same in cc (is)
    | inr gt ↦ let is = sym (ap (λ t. if t then Some (with_both First a) else Some (with_both Second b)) gt) ∙ same in cc (is)
  ]

pub length_file : (files : Files) → slice_index (map length files) 0 ≡ length (file_at files 0)
length_file [] = refl
length_file (x ∷ files) = refl

-- the gate that is made of it
pub found_knows : (slot : ℕ) (file : List (List ℕ)) (found : Found) → length file ≡ 2 + 2 * slot → IsFound slot file found
    → Knows (record { slot = slot; newest = found.half; is_open = true; other_open = found.other_open; number = found.head.number; broken = false }) file
found_knows slot file found long is = record {
  blocks = long;
  own = is.head.opened;
  others = is.others;
  wins = is.wins;
  number = λ opened. sym is.head.number_is;
}
