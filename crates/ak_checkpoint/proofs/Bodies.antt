-- Bytes that are written into a body, block by block.
use Rattle.std.proofs.Common.{◌≡◌, ℕ, zero, suc, ◌+◌, ◌*◌, ◌-◌, ◌<◌, ◌≤◌, min, replicate, List, [], ◌∷◌, ◌++◌, length, take, drop, slice_set, refl, sym, ◌∙◌, ap, subst, arith, append_assoc, length-drop}
use Rattle.std.proofs.lemmas.List.{append-nil, take_more_set, take-append-drop, drop_all, drop-drop, drop-set-add, length-take, take_min}
use Rattle.ak_host.specs.Files.{Files, file_at, with_block, zero_block}
use Rattle.ak_host.proofs.Items.{file_at-with_block_same}
use Rattle.ak_gate.specs.Slots.{joined, body_at, body_index}
use Rattle.ak_gate.specs.declared.half.Half.{Half}
use Rattle.ak_gate.specs.declared.half.Half.TheVariants.{First, Second}
use Rattle.ak_checkpoint.specs.Bodies.{BeginsWith, block_from}

joined-append : (a b : List (List ℕ)) → joined (a ++ b) ≡ joined a ++ joined b
joined-append [] b = refl
joined-append (x ∷ a) b = ap (λ (l : List ℕ). x ++ l) (joined-append a b) ∙ sym (append_assoc x (joined a) (joined b))

-- what is cut off a list that others follow, and what is left of it
cut : (n : ℕ) (xs zs : List ℕ) → (rest : List ℕ) × (take n (xs ++ zs) ++ drop n xs ≡ xs ++ rest)
cut zero xs zs = ([], sym (append-nil xs))
cut (suc n) [] zs = (take (suc n) zs, append-nil (take (suc n) zs))
cut (suc n) (x ∷ xs) zs = ((cut n xs zs).0, ap (λ (l : List ℕ). x ∷ l) (cut n xs zs).1)

-- the blocks before this place hold the bytes up to there
pub record IsWritten (bytes : List ℕ) (blocks : List (List ℕ)) (i : ℕ) : Type 0 where
  pub rest : List ℕ
  pub is : joined (take i blocks) ++ drop (4096 * i) bytes ≡ bytes ++ rest

pub written_more : (bytes : List ℕ) (blocks : List (List ℕ)) (i : ℕ) → i < length blocks → IsWritten bytes blocks i
    → IsWritten bytes (slice_set blocks i (block_from (4096 * i) bytes)) (i + 1)
written_more bytes blocks i within so_far =
    let at = 4096 * i in
    let block = block_from at bytes in
    let tail = cut 4096 (drop at bytes) zero_block in
    let next : at + 4096 ≡ 4096 * (i + 1) = omega arith in
    let front : joined (take (i + 1) (slice_set blocks i block)) ≡ joined (take i blocks) ++ block =
    ap joined (take_more_set blocks i block within) ∙ joined-append (take i blocks) (block ∷ []) ∙ ap (λ (l : List ℕ). joined (take i blocks) ++ l) (append-nil block) in
    let behind : block ++ drop (4096 * (i + 1)) bytes ≡ drop at bytes ++ tail.0 =
    ap (λ (l : List ℕ). block ++ l) (ap (λ k. drop k bytes) (sym next) ∙ sym (drop-drop 4096 at bytes)) ∙ tail.1 in
    record {
      rest = so_far.rest ++ tail.0;
      is = ap (λ (l : List ℕ). l ++ drop (4096 * (i + 1)) bytes) front
          ∙ append_assoc (joined (take i blocks)) block (drop (4096 * (i + 1)) bytes)
          ∙ ap (λ (l : List ℕ). joined (take i blocks) ++ l) behind
          ∙ sym (append_assoc (joined (take i blocks)) (drop at bytes) tail.0)
          ∙ ap (λ (l : List ℕ). l ++ tail.0) so_far.is
          ∙ append_assoc bytes so_far.rest tail.0;
    }

pub all_written : (bytes : List ℕ) (blocks : List (List ℕ)) (i : ℕ) → length bytes ≤ 4096 * i → IsWritten bytes blocks i → BeginsWith bytes blocks
all_written bytes blocks i past so_far = record {
  rest = so_far.rest ++ joined (drop i blocks);
  is = ap joined (sym (take-append-drop i blocks))
      ∙ joined-append (take i blocks) (drop i blocks)
      ∙ ap (λ (l : List ℕ). l ++ joined (drop i blocks)) (sym (append-nil (joined (take i blocks))) ∙ ap (λ (l : List ℕ). joined (take i blocks) ++ l) (sym (drop_all (4096 * i) bytes past)) ∙ so_far.is)
      ∙ append_assoc bytes so_far.rest (joined (drop i blocks));
}

take-set : {A : Type 0} (n : ℕ) (l : List A) (i : ℕ) (a : A) → take n (slice_set l i a) ≡ slice_set (take n l) i a
take-set zero l i a = refl
take-set (suc n) [] i a = refl
take-set (suc n) (x ∷ l) zero a = refl
take-set (suc n) (x ∷ l) (suc i) a = ap (λ xs. x ∷ xs) (take-set n l i a)

-- a block of a body
pub body_set : (slot : ℕ) (half : Half) (file : List (List ℕ)) (i : ℕ) (block : List ℕ)
    → body_at slot half (slice_set file (body_index slot half + i) block) ≡ slice_set (body_at slot half file) i block
body_set slot half file i block =
    ap (take slot) (drop-set-add (body_index slot half) file i block) ∙ take-set slot (drop (body_index slot half) file) i block

body_length : (slot : ℕ) (half : Half) (file : List (List ℕ)) → length file ≡ 2 + 2 * slot → length (body_at slot half file) ≡ slot
body_length slot First file long = omega (arith, length-take slot (drop 2 file), length-drop 2 file)
body_length slot Second file long = omega (arith, length-take slot (drop (2 + slot) file), length-drop (2 + slot) file)

-- one block more of a body on the disk
pub block_written : (slot : ℕ) (half : Half) (bytes : List ℕ) (old new : Files) (index i : ℕ) → index ≡ body_index slot half + i → i < slot → length (file_at old 0) ≡ 2 + 2 * slot
    → new ≡ with_block old 0 index (block_from (4096 * i) bytes)
    → IsWritten bytes (body_at slot half (file_at old 0)) i → IsWritten bytes (body_at slot half (file_at new 0)) (i + 1)
block_written slot half bytes old new index i at within long is so_far =
    let block = block_from (4096 * i) bytes in
    let now : body_at slot half (file_at new 0) ≡ slice_set (body_at slot half (file_at old 0)) i block =
    ap (λ (files : Files). body_at slot half (file_at files 0)) is
    ∙ ap (body_at slot half) (file_at-with_block_same old 0 index block ∙ ap (λ k. slice_set (file_at old 0) k block) at)
    ∙ body_set slot half (file_at old 0) i block in
    let in_body : i < length (body_at slot half (file_at old 0)) = omega (arith, body_length slot half (file_at old 0) long) in
    subst (λ (blocks : List (List ℕ)). IsWritten bytes blocks (i + 1)) (sym now) (written_more bytes (body_at slot half (file_at old 0)) i in_body so_far)

-- a block that was filled from the front

zeros_front : (n m : ℕ) → n ≤ m → take {A = ℕ} n (replicate m 0) ≡ replicate n 0
zeros_front zero m le = refl
zeros_front (suc n) zero le = absurd (omega arith)
zeros_front (suc n) (suc m) le = ap (λ (l : List ℕ). 0 ∷ l) (zeros_front n m (omega arith))

filled : (n m : ℕ) (xs : List ℕ) → n ≤ m → take n (xs ++ replicate m 0) ≡ take n xs ++ drop {A = ℕ} (length (take n xs)) (replicate n 0)
filled zero m xs le = refl
filled (suc n) m [] le = zeros_front (suc n) m le
filled (suc n) m (x ∷ xs) le = ap (λ (l : List ℕ). x ∷ l) (filled n m xs (omega arith))

pub front_block : (at count : ℕ) (bytes : List ℕ) → count ≡ min (length bytes - at) 4096
    → take count (drop at bytes) ++ drop {A = ℕ} (length (take count (drop at bytes))) (replicate 4096 0) ≡ block_from at bytes
unfolding zero_block
front_block at count bytes is =
    let by : count ≡ min 4096 (length (drop at bytes)) = omega (arith, length-drop at bytes) in
    let part : take count (drop at bytes) ≡ take 4096 (drop at bytes) = ap (λ k. take k (drop at bytes)) by ∙ take_min 4096 (drop at bytes) in
    ap (λ (l : List ℕ). l ++ drop {A = ℕ} (length l) (replicate 4096 0)) part ∙ sym (filled 4096 4096 (drop at bytes) (omega arith))
