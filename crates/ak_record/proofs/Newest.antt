-- The newest record of a disk.
use Rattle.std.proofs.Common.{◌≡◌, ◌∙◌, ◌⊎◌, inl, inr, ℕ, nat_le, if◌then◌else◌, Bool, true, false, List, Option, Some, refl, sym, ap, subst, arith}
use Rattle.ak_gate.specs.declared.half.Half.{Half}
use Rattle.ak_gate.specs.declared.half.Half.TheVariants.{First, Second}
use Rattle.ak_gate.specs.Slots.{Frame, frame_of, body_at, gate_at, is_open, newest, newest_in, newest_of}
use Rattle.ak_host.specs.Files.{Files, file_at}
use Rattle.ak_meta.specs.Contents.{Content, Spells}
use Rattle.ak_record.specs.Records.{HasNewest}

pub one_newest : (slot other : ℕ) (frame more : Option Frame) (disk : Files) → HasNewest slot frame disk → HasNewest other more disk → (slot ≡ other) × (frame ≡ more)
one_newest slot other frame more disk has has' =
    let same : slot ≡ other = omega (arith, has.blocks, has'.blocks) in
    (same, sym has.newest_is ∙ ap (λ (s : ℕ). newest s disk) same ∙ has'.newest_is)

-- an open gate before a body with this frame
record StandsIn (slot : ℕ) (file : List (List ℕ)) (frame : Frame) : Type 0 where
  half : Half
  opened : is_open (gate_at half file) ≡ true
  is : frame_of (body_at slot half file) ≡ frame

some_same : {A : Type 0} (x y : A) → Some x ≡ Some y → x ≡ y
some_same x y same = cc

either : (b : Bool) (x y frame : Frame) → (if b then Some x else Some y) ≡ Some frame → (x ≡ frame) ⊎ (y ≡ frame)
either true x y frame is = inl (some_same x frame is)
either false x y frame is = inr (some_same y frame is)

newest_half : (a b : Bool) (x y frame : Frame) → newest_of a b x y ≡ Some frame → ((a ≡ true) × (x ≡ frame)) ⊎ ((b ≡ true) × (y ≡ frame))
newest_half true true x y frame is = elim (either (nat_le y.number x.number) x y frame is) [ inl first ↦ inl (refl, first) | inr second ↦ inr (refl, second) ]
newest_half true false x y frame is = inl (refl, some_same x frame is)
newest_half false true x y frame is = inr (refl, some_same y frame is)
newest_half false false x y frame is = cc

stands_in : (slot : ℕ) (file : List (List ℕ)) (frame : Frame) → newest_in slot file ≡ Some frame → StandsIn slot file frame
unfolding newest_in
stands_in slot file frame is = elim (newest_half (is_open (gate_at First file)) (is_open (gate_at Second file)) (frame_of (body_at slot First file)) (frame_of (body_at slot Second file)) frame is) [
  | inl first ↦ record { half = First; opened = first.0; is = first.1 }
  | inr second ↦ record { half = Second; opened = second.0; is = second.1 }
]

-- the newest record spells a content with this size of a slot
pub newest_spells : (slot : ℕ) (frame : Frame) (disk : Files) → HasNewest slot (Some frame) disk → (content : Content) × Spells frame.payload content × (content.limits.slot ≡ slot)
newest_spells slot frame disk has =
    let at = stands_in slot (file_at disk 0) frame has.newest_is in
    let is = has.records at.half at.opened in
    (is.content, subst (λ (f : Frame). Spells f.payload is.content) at.is is.spells, is.slot_is)
