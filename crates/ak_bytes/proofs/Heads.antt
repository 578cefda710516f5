-- One block begins with one head.
use Rattle.std.proofs.Common.{◌≡◌, ◌+◌, ◌≤◌, ℕ, List, [], ◌++◌, length, take, drop, refl, sym, ap, ap₂, ◌∙◌, arith, append_assoc, length-append}
use Rattle.std.proofs.Math.Seq.{take-add}
use borrow.Rule.Slice.PartMut.{put_mid}
use Rattle.std.proofs.lemmas.List.{append_cancel_right, length-replicate, length-take-le, length-drop, drop-drop}
use Rattle.std.proofs.Math.ListN.{replicate}
use Rattle.ak_bytes.proofs.FixedFields.{same_field}
use Rattle.ak_bytes.proofs.Parts.{same_ends, length-part}
use Rattle.ak_bytes.specs.Head.{head_fields, head_bytes, FitsHead, IsHead}
use Rattle.ak_bytes.specs.declared.head.Head.{Head}

made : (kind level count series number addr elder length : ℕ) → Head
made kind level count series number addr elder length = record { kind = kind; level = level; count = count; series = series; number = number; addr = record { 0 = addr }; elder = record { 0 = elder }; length = length }

made_of : (h : Head) → made h.kind h.level h.count h.series h.number h.addr.0 h.elder.0 h.length ≡ h
unfolding made
made_of h = refl

same_heads : (g h : Head) → g.kind ≡ h.kind → g.level ≡ h.level → g.count ≡ h.count → g.series ≡ h.series → g.number ≡ h.number → g.addr.0 ≡ h.addr.0 → g.elder.0 ≡ h.elder.0 → g.length ≡ h.length → g ≡ h
same_heads g h a b c d e f i j =
    let same : made g.kind g.level g.count g.series g.number g.addr.0 g.elder.0 g.length ≡ made h.kind h.level h.count h.series h.number h.addr.0 h.elder.0 h.length = cc in
    sym (made_of g) ∙ same ∙ made_of h

pub fields_same : (g h : Head) → FitsHead g → FitsHead h → head_fields g ≡ head_fields h → g ≡ h
unfolding head_fields
fields_same g h f f' e =
    let a = same_field 4 g.length h.length _ _ f.length f'.length e in
    let b = same_field 8 g.elder.0 h.elder.0 _ _ f.elder f'.elder a.0 in
    let c = same_field 8 g.addr.0 h.addr.0 _ _ f.addr f'.addr b.0 in
    let d = same_field 8 g.number h.number _ _ f.number f'.number c.0 in
    let i = same_field 4 g.series h.series _ _ f.series f'.series d.0 in
    let j = same_field 2 g.count h.count _ _ f.count f'.count i.0 in
    let k = same_field 1 g.level h.level _ _ f.level f'.level j.0 in
    let l = same_field 1 g.kind h.kind [] [] f.kind f'.kind k.0 in
    same_heads g h l.1 k.1 j.1 i.1 d.1 c.1 b.1 a.1

pub length-head_fields : (h : Head) → length (head_fields h) ≡ 36
unfolding head_fields
length-head_fields h = simp length-append

pub length-head_bytes : (h : Head) → length (head_bytes h) ≡ 64
unfolding head_bytes
length-head_bytes h = length-append (head_fields h) (replicate 28 0) ∙ ap (λ (m : ℕ). m + 28) (length-head_fields h)

-- one head has these bytes
pub head_same : (g h : Head) → IsHead g → IsHead h → head_bytes g ≡ head_bytes h → g ≡ h
unfolding head_bytes
head_same g h is is' e = fields_same g h is.fits is'.fits (append_cancel_right (head_fields g) (head_fields h) (replicate 28 0) e)

-- the fields and the zeros after them
pub head_parts : (bytes : List ℕ) (h : Head) → 64 ≤ length bytes → take 64 bytes ≡ head_bytes h → (take 36 bytes ≡ head_fields h) × (take 28 (drop 36 bytes) ≡ replicate 28 0)
unfolding head_bytes
head_parts bytes h long e =
    let split : take 36 bytes ++ take 28 (drop 36 bytes) ≡ head_fields h ++ replicate 28 0 = sym (take-add 36 28 bytes) ∙ e in
    let zeros : length (take 28 (drop 36 bytes)) ≡ length {A = ℕ} (replicate 28 0) = length-take-le 28 (drop 36 bytes) (omega (arith, length-drop 36 bytes)) ∙ sym (length-replicate {A = ℕ} 28 0) in
    same_ends (take 36 bytes) (head_fields h) (take 28 (drop 36 bytes)) (replicate 28 0) zeros split

pub head_from_parts : (bytes : List ℕ) (h : Head) → take 36 bytes ≡ head_fields h → take 28 (drop 36 bytes) ≡ replicate 28 0 → take 64 bytes ≡ head_bytes h
unfolding head_bytes
head_from_parts bytes h front back = take-add 36 28 bytes ∙ ap₂ (λ (p q : List ℕ). p ++ q) front back

-- what a write of the fields and the zeros after them leaves
pub written : (h : Head) (old mid zeros : List ℕ) → 64 ≤ length mid → take 36 mid ≡ head_fields h → drop 36 mid ≡ drop 36 old → zeros ≡ replicate (length (take 28 (drop 36 mid))) 0
    → put_mid 36 28 mid zeros ≡ head_bytes h ++ drop 64 old
unfolding head_bytes
written h old mid zeros long front back e =
    let zero : zeros ≡ replicate 28 0 = e ∙ ap (λ (m : ℕ). replicate {A = ℕ} m 0) (length-part 36 28 mid long) in
    let rest : drop 28 (drop 36 mid) ≡ drop 64 old = ap (drop 28) back ∙ drop-drop 28 36 old in
    ap₂ (λ (p q : List ℕ). p ++ q) front (ap₂ (λ (p q : List ℕ). p ++ q) zero rest) ∙ sym (append_assoc (head_fields h) (replicate 28 0) (drop 64 old))
