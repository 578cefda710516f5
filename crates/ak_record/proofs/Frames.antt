-- Frames of contents, and the bodies that begin with one.
use Rattle.std.proofs.Common.{◌≡◌, ◌∙◌, ℕ, ◌+◌, ◌*◌, ◌^◌, ◌<◌, ◌≤◌, List, [], ◌∷◌, ◌++◌, length, take, drop, refl, sym, ap, arith, append-nil}
use Rattle.std.proofs.lemmas.List.{take_at}
use Rattle.byteorder.specs.Endian.{little_bytes, little_from}
use Rattle.byteorder.specs.Numbers.{length-bytes_low_first, little_from-cons, little_number-reads_back}
use Rattle.ak_gate.specs.Opening.{length_of}
use Rattle.ak_gate.specs.Slots.{Frame, frame_of, joined, number_of}
use Rattle.ak_meta.specs.Contents.{Content, IsMeta, Spells, meta_bytes, size_of}
use Rattle.ak_meta.proofs.Contents.{one_meta, spelled_long}
use Rattle.ak_record.specs.Records.{IsRecord, frame_bytes, frame_for}

pub one_frame : (m n : ℕ) (c d : Content) → IsMeta c → IsMeta d → frame_for m c ≡ frame_for n d → (m ≡ n) × (c ≡ d)
one_frame m n c d is is' same = (ap (λ (f : Frame). f.number) same, one_meta c d is is' (ap (λ (f : Frame). f.payload) same))

-- bytes spell one content
pub one_spelled : (bytes : List ℕ) (c d : Content) → Spells bytes c → Spells bytes d → c ≡ d
one_spelled bytes c d spells spells' = one_meta c d spells.rules_are spells'.rules_are (sym spells.is ∙ spells'.is)

-- bytes that spell a content with another size of a slot
pub other_slot : (bytes : List ℕ) (slot : ℕ) (c : Content) → Spells bytes c → (c.limits.slot ≡ slot → ⊥) → (d : Content) → Spells bytes d → d.limits.slot ≡ slot → ⊥
other_slot bytes slot c spells other d spells' same = other (ap (λ (e : Content). e.limits.slot) (one_spelled bytes c d spells spells') ∙ same)

-- a number is that of its bytes

number_from : (xs : List ℕ) → number_of xs ≡ little_from 0 (length xs) xs
number_from [] = refl
number_from (x ∷ xs) = ap (λ (n : ℕ). x + 256 * n) (number_from xs ∙ sym (little_from-cons 0 (length xs) x xs))

pub number_low : (n x : ℕ) → x < 256 ^ n → number_of (little_bytes n x) ≡ x
number_low n x below =
    number_from (little_bytes n x)
    ∙ (λ i. little_from 0 (length-bytes_low_first 0 n x i) (sym (append-nil (little_bytes n x)) i))
    ∙ little_number-reads_back n x [] below

-- a body that begins with a frame
module _ (frame : Frame) (body : List (List ℕ)) (rest : List ℕ) (short : length frame.payload < 2 ^ 64) (begins : joined body ≡ frame_bytes frame ++ rest) where
  payload_at : take (number_of (little_bytes 8 (length frame.payload))) (frame.payload ++ rest) ≡ frame.payload
  payload_at = ap (λ n. take n (frame.payload ++ rest)) (number_low 8 (length frame.payload) (omega arith)) ∙ take_at frame.payload rest (length frame.payload) refl

  pub length_is : length_of body ≡ length frame.payload
  length_is = ap (λ (bytes : List ℕ). number_of (take 8 bytes)) begins ∙ number_low 8 (length frame.payload) (omega arith)

  pub frame_is : frame.number < 2 ^ 64 → frame_of body ≡ frame
  frame_is below =
      let number_is = number_low 8 frame.number (omega arith) in
      let at_bytes : frame_of body ≡ record { number = number_of (little_bytes 8 frame.number); payload = take (number_of (little_bytes 8 (length frame.payload))) (frame.payload ++ rest) } =
      λ i. record { number = number_of (take 8 (drop 8 (begins i))); payload = take (number_of (take 8 (begins i))) (drop 16 (begins i)) } in
      at_bytes ∙ (λ i. record { number = number_is i; payload = payload_at i })

-- a content that fits its slot is a record there
pub content_record : (slot number : ℕ) (content : Content) (body : List (List ℕ)) (rest : List ℕ) → number < 2 ^ 64 → IsMeta content → content.limits.slot ≡ slot
    → 16 + size_of content ≤ 4096 * slot → joined body ≡ frame_bytes (frame_for number content) ++ rest → IsRecord slot body
content_record slot number content body rest below is slot_is room begins =
    let long : length (meta_bytes content) ≡ size_of content = spelled_long content is in
    let short : length (meta_bytes content) < 2 ^ 64 = omega (arith, long, room, slot_is, is.limits_are.slot_most) in
    record {
      good = λ bad. absurd (omega (arith, length_is (frame_for number content) body rest short begins, long, room, bad));
      content = content;
      spells = record { rules_are = is; is = ap (λ (f : Frame). f.payload) (frame_is (frame_for number content) body rest short begins below) };
      slot_is = slot_is;
    }
