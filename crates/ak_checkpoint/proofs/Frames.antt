-- What a body spells that begins with a frame.
use Rattle.std.proofs.Common.{◌≡◌, ℕ, zero, suc, ◌+◌, ◌*◌, ◌^◌, ◌<◌, ◌≤◌, false, List, [], ◌∷◌, ◌++◌, length, take, drop, refl, sym, ◌∙◌, ap, subst, arith, length-append, length-drop}
use Rattle.std.proofs.lemmas.List.{take_at, take-append-le, drop-append-le}
use Rattle.byteorder.specs.Endian.{little_bytes, little_number}
use Rattle.byteorder.specs.Numbers.{length-bytes_low_first, little_from-cons, little_number-reads_back}
use Rattle.ak_gate.specs.Opening.{length_of}
use Rattle.ak_host.specs.Files.{Files, file_at}
use Rattle.ak_gate.specs.View.{View}
use Rattle.ak_gate.specs.Slots.{Frame, body_at, frame_of, number_of, other}
use Rattle.ak_meta.specs.Contents.{Content, IsMeta, meta_bytes}
use Rattle.ak_record.specs.Records.{IsRecord, frame_for, frame_bytes}
use Rattle.ak_checkpoint.specs.Bodies.{BeginsWith, Carries}

number_take : (n : ℕ) (xs : List ℕ) → n ≤ length xs → number_of (take n xs) ≡ little_number n xs
number_take zero xs within = refl
number_take (suc n) [] within = absurd (omega arith)
number_take (suc n) (x ∷ xs) within = ap (λ k. x + 256 * k) (number_take n xs (omega arith) ∙ sym (little_from-cons 0 n x xs))

-- the number that a field of 8 bytes spells
number_low : (x : ℕ) (rest : List ℕ) → x < 2 ^ 64 → number_of (take 8 (little_bytes 8 x ++ rest)) ≡ x
number_low x rest small =
    number_take 8 (little_bytes 8 x ++ rest) (omega (arith, length-append (little_bytes 8 x) rest, length-bytes_low_first 0 8 x))
    ∙ little_number-reads_back 8 x rest (omega arith)

module _ (f : Frame) (body : List (List ℕ)) (short : length f.payload < 2 ^ 64) (begins : BeginsWith (frame_bytes f) body) where
  pub length_is : length_of body ≡ length f.payload
  length_is = ap (λ (bytes : List ℕ). number_of (take 8 bytes)) begins.is ∙ number_low (length f.payload) [] short

  pub frame_is : f.number < 2 ^ 64 → frame_of body ≡ f
  frame_is below =
      let whole = begins.is in
      let payload_is : take (number_of (little_bytes 8 (length f.payload))) (f.payload ++ begins.rest) ≡ f.payload =
      ap (λ n. take n (f.payload ++ begins.rest)) (number_low (length f.payload) [] short) ∙ take_at f.payload begins.rest (length f.payload) refl in
      let number_is : number_of (little_bytes 8 f.number) ≡ f.number = number_low f.number [] below in
      let at_bytes : frame_of body ≡ record { number = number_of (little_bytes 8 f.number); payload = take (number_of (little_bytes 8 (length f.payload))) (f.payload ++ begins.rest) } =
      λ i. record { number = number_of (take 8 (drop 8 (whole i))); payload = take (number_of (take 8 (whole i))) (drop 16 (whole i)) } in
      at_bytes ∙ (λ i. record { number = number_is i; payload = payload_is i })

-- the number of a frame, whatever its payload is
pub carried : (number : ℕ) (bytes : List ℕ) (body : List (List ℕ)) → number < 2 ^ 64 → Carries number bytes → BeginsWith bytes body → (frame_of body).number ≡ number
carried number bytes body below carries begins =
    let second : 8 ≤ length (drop 8 bytes) = omega (arith, carries.head, length-drop 8 bytes) in
    ap (λ (l : List ℕ). number_of (take 8 (drop 8 l))) begins.is
    ∙ ap (λ (l : List ℕ). number_of (take 8 l)) (drop-append-le 8 bytes begins.rest (omega (arith, carries.head)))
    ∙ ap number_of (take-append-le 8 (drop 8 bytes) begins.rest second ∙ carries.spelled)
    ∙ number_low number [] below

-- a view that fits its slot is a record there
pub view_record : (number : ℕ) (c : Content) (slot : ℕ) (body : List (List ℕ)) → 2 + 2 * slot < 2 ^ 32 → number < 2 ^ 64
    → 16 + length (meta_bytes c) ≤ 4096 * slot → BeginsWith (frame_bytes (frame_for number c)) body
    → IsMeta c → c.limits.slot ≡ slot → IsRecord slot body
view_record number c slot body small below room begins is slot_is =
    let short : length (meta_bytes c) < 2 ^ 64 = omega (arith, small, room) in
    record {
      good = λ bad. absurd (omega (arith, length_is (frame_for number c) body short begins, room, bad));
      content = c;
      spells = record { rules_are = is; is = ap (λ (f : Frame). f.payload) (frame_is (frame_for number c) body short begins below) };
      slot_is = slot_is;
    }

-- a frame's length
pub frame_long : (f : Frame) → length (frame_bytes f) ≡ 16 + length f.payload
frame_long f = omega (arith, length-append (little_bytes 8 (length f.payload) ++ little_bytes 8 f.number) f.payload)

-- a frame that fits
pub frame_room : (f : Frame) (bytes : List ℕ) (slot : ℕ) → bytes ≡ frame_bytes f → length bytes ≤ 4096 * slot → 16 + length f.payload ≤ 4096 * slot
frame_room f bytes slot is room = omega (arith, room, ap length is, frame_long f)

-- the same of the body that was written, by another name of the gate and of the bytes
pub begins_by : (view now : View) (bytes frame : List ℕ) (files : Files) → now ≡ record view { other_open = false } → bytes ≡ frame
    → BeginsWith bytes (body_at now.slot (other now.newest) (file_at files 0)) → BeginsWith frame (body_at view.slot (other view.newest) (file_at files 0))
begins_by view now bytes frame files same is begins =
    subst (λ (v : View). BeginsWith frame (body_at v.slot (other v.newest) (file_at files 0))) same
    (subst (λ (l : List ℕ). BeginsWith l (body_at now.slot (other now.newest) (file_at files 0))) is begins)
