-- The head of a frame stands in the first block of its body.
use Rattle.std.proofs.Common.{◌≡◌, inl, inr, ℕ, zero, suc, ◌+◌, ◌-◌, ◌*◌, ◌<◌, ◌≤◌, min, append_assoc, zero-add, add-one, List, [], ◌∷◌, ◌++◌, length, take, drop, get_or, refl, sym, ◌∙◌, ap, drop-cons, length-drop, arith}
use Rattle.std.proofs.lemmas.List.{take-append-le, drop-append-le, get_or_past, append-nil, take_all, length-take, get_or-take, get_or-drop}
use Rattle.std.specs.Prelude.{Result, Ok, Err, IfOk}
use Rattle.std.proofs.lemmas.Bool.{cases_lt}
use Rattle.ak_gate.specs.Slots.{body_index, body_at, joined, number_of, frame_of}
use Rattle.ak_gate.specs.Opening.{IsHeadOf}
use Rattle.ak_gate.specs.declared.opening.Opened.{Opened}
use Rattle.ak_gate.specs.declared.half.Half.TheVariants.{First, Second}
use Rattle.ak_gate.specs.declared.half.Half.{Half}

-- a block that is there stands in the file
block_within : (file : List (List ℕ)) (index : ℕ) (block : List ℕ) → block ≡ get_or file index [] → length block ≡ 4096 → index < length file
block_within file index block is long = elim (cases_lt index (length file)) [
  | inl within ↦ within
  | inr past ↦ absurd (omega (arith, long, ap length is, ap length (get_or_past file index [] past)))
]

body_first : (slot : ℕ) (half : Half) (file : List (List ℕ)) → 1 ≤ slot → body_index slot half < length file
    → (rest : List ℕ) × (joined (body_at slot half file) ≡ get_or file (body_index slot half) [] ++ rest)
body_first zero half file some within = absurd (omega arith)
body_first (suc n) half file some within =
    (joined (take n (drop (suc (body_index (suc n) half)) file)), ap (λ (l : List (List ℕ)). joined (take (suc n) l)) (drop-cons file (body_index (suc n) half) [] within))

pub head_number : (slot : ℕ) (half : Half) (file : List (List ℕ)) (block : List ℕ) (from : ℕ) → 1 ≤ slot → block ≡ get_or file (body_index slot half) [] → length block ≡ 4096 → from + 8 ≤ 4096
    → number_of (take 8 (drop from (joined (body_at slot half file)))) ≡ number_of (take 8 (drop from block))
head_number slot half file block from some is long room =
    let first = body_first slot half file some (block_within file (body_index slot half) block is long) in
    let le : from ≤ length block = omega (arith, long, room) in
    let le_rest : 8 ≤ length (drop from block) = omega (arith, long, room, length-drop from block) in
    ap (λ (l : List ℕ). number_of (take 8 (drop from l))) (first.1 ∙ ap (λ (b : List ℕ). b ++ first.0) (sym is))
    ∙ ap (λ (l : List ℕ). number_of (take 8 l)) (drop-append-le from block first.0 le)
    ∙ ap number_of (take-append-le 8 (drop from block) first.0 le_rest)

-- the bytes of a payload, by the block that they stand in and what is behind it

take_over : (left room : ℕ) (front more : List ℕ) → length front ≡ room → take left (front ++ more) ≡ take (min left room) front ++ take (left - min left room) more
take_over left room front more long = elim (cases_lt left room) [
  | inl within ↦
      let is : min left room ≡ left = omega arith in
      let none : left - min left room ≡ 0 = omega arith in
      let le : left ≤ length front = omega (arith, long) in
      take-append-le left front more le ∙ sym (append-nil (take left front)) ∙ (λ i. take (sym is i) front ++ take (sym none i) more)
  | inr past ↦
      let is : min left room ≡ length front = omega (arith, long) in
      let over : length front + (left - min left room) ≡ left = omega (arith, long) in
      ap (λ n. take n (front ++ more)) (sym over) ∙ take_behind front (left - min left room) more
      ∙ ap (λ (l : List ℕ). l ++ take (left - min left room) more) (sym (take_all (min left room) front (omega (arith, long))))
]
  where
    take_behind : (front : List ℕ) (n : ℕ) (more : List ℕ) → take (length front + n) (front ++ more) ≡ front ++ take n more
    take_behind [] n more = ap (λ k. take k more) (zero-add n)
    take_behind (x ∷ front) n more =
        let next : length (x ∷ front) + n ≡ suc (length front + n) = omega arith in
        ap (λ k. take k (x ∷ front ++ more)) next ∙ ap (λ l. x ∷ l) (take_behind front n more)

-- a part of a payload that was put behind the rest
pub goes_on : (old new block : List ℕ) (left rest room from : ℕ) → length block ≡ 4096 → from + room ≡ 4096 → new ≡ old ++ take (min left room) (drop from block) → rest ≡ left - min left room
    → (more : List ℕ) → new ++ take rest more ≡ old ++ take left (drop from block ++ more)
goes_on old new block left rest room from long fits is counts more =
    (λ i. is i ++ take (counts i) more)
    ∙ append_assoc old (take (min left room) (drop from block)) (take (left - min left room) more)
    ∙ ap (λ l. old ++ l) (sym (take_over left room (drop from block) more (omega (arith, long, fits, length-drop from block))))

joined_step : (body : List (List ℕ)) (i : ℕ) → joined (drop i body) ≡ get_or body i [] ++ joined (drop (suc i) body)
joined_step [] zero = refl
joined_step [] (suc i) = refl
joined_step (b ∷ body) zero = refl
joined_step (b ∷ body) (suc i) = joined_step body i

body_get : (slot bi i : ℕ) (file : List (List ℕ)) → i < slot → get_or (take slot (drop bi file)) i [] ≡ get_or file (bi + i) []
body_get slot bi i file within = get_or-take slot (drop bi file) i [] within ∙ get_or-drop bi file i []

pub joined_at : (slot : ℕ) (half : Half) (file : List (List ℕ)) (i : ℕ) → i < slot
    → joined (drop i (body_at slot half file)) ≡ get_or file (body_index slot half + i) [] ++ joined (drop (i + 1) (body_at slot half file))
joined_at slot half file i within =
    joined_step (body_at slot half file) i
    ∙ (λ k. body_get slot (body_index slot half) i file within k ++ joined (drop (sym (add-one i) k) (body_at slot half file)))

-- all of it: what the first block has, and what is behind
pub first_part : (slot : ℕ) (half : Half) (file : List (List ℕ)) (head : Opened) (new : List ℕ) (rest : ℕ) → 1 ≤ slot → IsHeadOf slot half file head
    → new ≡ [] ++ take (min head.length (4096 - 16)) (drop 16 head.block) → rest ≡ head.length - min head.length (4096 - 16)
    → new ++ take rest (joined (drop 1 (body_at slot half file))) ≡ (frame_of (body_at slot half file)).payload
first_part slot half file head new rest some is_head is counts =
    let body = body_at slot half file in
    let whole : joined body ≡ head.block ++ joined (drop 1 body) =
    joined_at slot half file 0 some ∙ ap (λ (b : List ℕ). b ++ joined (drop 1 body)) (ap (λ k. get_or file k []) (omega arith) ∙ sym is_head.block_is) in
    let room : 16 ≤ length head.block = omega (arith, is_head.long) in
    goes_on [] new head.block head.length rest (4096 - 16) 16 is_head.long refl is counts (joined (drop 1 body))
    ∙ ap (take head.length) (sym (ap (drop 16) whole ∙ drop-append-le 16 head.block (joined (drop 1 body)) room))
    ∙ ap (λ n. take n (drop 16 (joined body))) is_head.length_is

pub body_end : (slot : ℕ) (half : Half) → body_index slot half + slot ≤ 2 + 2 * slot
body_end slot First = omega arith
body_end slot Second = omega arith

joined_past : (body : List (List ℕ)) (i : ℕ) → length body ≤ i → joined (drop i body) ≡ []
joined_past [] zero past = refl
joined_past [] (suc i) past = refl
joined_past (b ∷ body) zero past = absurd (omega arith)
joined_past (b ∷ body) (suc i) past = joined_past body i (omega arith)

take-none : (n : ℕ) → take {A = ℕ} n [] ≡ []
take-none zero = refl
take-none (suc n) = refl

-- nothing is to come behind the last block
pub at_end : (payload : List ℕ) (left slot : ℕ) (half : Half) (file : List (List ℕ)) (i : ℕ) → slot ≤ i → payload ++ take left (joined (drop i (body_at slot half file))) ≡ payload
at_end payload left slot half file i past =
    ap (λ (l : List ℕ). payload ++ take left l) (joined_past (body_at slot half file) i (omega (arith, past, length-take slot (drop (body_index slot half) file))))
    ∙ ap (λ l. payload ++ l) (take-none left) ∙ append-nil payload

pub if_ok : {T E : Type 0} {P Q : T → Type 0} (r : Result T E) → IfOk r P → ((x : T) → P x → Q x) → IfOk r Q
if_ok (Ok x) p so = so x p
if_ok (Err e) p so = tt
