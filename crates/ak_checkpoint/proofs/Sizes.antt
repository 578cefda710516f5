-- The sizes of files as they are made one behind another.
use Rattle.std.proofs.Common.{◌≡◌, ℕ, ◌+◌, ◌*◌, ◌<◌, List, [], ◌∷◌, ◌++◌, length, take, drop, replicate, refl, sym, ◌∙◌, ap, arith, length-append}
use Rattle.std.proofs.lemmas.List.{append_assoc, drop-drop, length-replicate, length-take-le, replicate-append-replicate, take-append-drop}
use Rattle.ak_base.specs.declared.limits.Limits.{Limits}
use Rattle.ak_checkpoint.specs.Making.{made_sizes}
use Rattle.ak_host.specs.Files.{with_item}

-- behind file 0 so many volumes of these blocks, and then what stood there
abbrev pub sizes_to : List ℕ → ℕ → ℕ → List ℕ
sizes_to old blocks count = take 1 old ++ (replicate count blocks ++ drop (1 + count) old)

put_at : (front tail : List ℕ) (size : ℕ) → with_item (front ++ tail) (length front) size ≡ front ++ (size ∷ drop 1 tail)
put_at [] [] size = refl
put_at [] (other ∷ tail) size = refl
put_at (first ∷ front) tail size = ap (λ (l : List ℕ). first ∷ l) (put_at front tail size)

pub sizes_first : (old : List ℕ) (blocks : ℕ) → old ≡ sizes_to old blocks 0
sizes_first old blocks = sym (take-append-drop 1 old)

pub sizes_next : (old : List ℕ) (blocks count : ℕ) → 0 < length old → with_item (sizes_to old blocks count) (1 + count) blocks ≡ sizes_to old blocks (count + 1)
sizes_next old blocks count some =
    let file : List ℕ = take 1 old in
    let volumes : List ℕ = replicate count blocks in
    let tail : List ℕ = drop (1 + count) old in
    let place : length (file ++ volumes) ≡ 1 + count = omega (arith, length-append file volumes, length-take-le 1 old (omega (arith, some)), length-replicate count blocks) in
    let behind : drop 1 tail ≡ drop (1 + (count + 1)) old = drop-drop 1 (1 + count) old ∙ ap (λ (n : ℕ). drop n old) (omega arith) in
    ap (λ (l : List ℕ). with_item l (1 + count) blocks) (sym (append_assoc file volumes tail))
    ∙ ap (λ (n : ℕ). with_item (file ++ volumes ++ tail) n blocks) (sym place)
    ∙ put_at (file ++ volumes) tail blocks
    ∙ append_assoc file volumes (blocks ∷ drop 1 tail)
    ∙ ap (λ (l : List ℕ). file ++ l) (sym (append_assoc volumes (blocks ∷ []) (drop 1 tail)) ∙ ap (λ (l : List ℕ). l ++ drop 1 tail) (replicate-append-replicate count 1 blocks))
    ∙ ap (λ (l : List ℕ). file ++ (replicate (count + 1) blocks ++ l)) behind

first_put : (old : List ℕ) (size : ℕ) → take 1 (with_item old 0 size) ≡ size ∷ []
first_put [] size = refl
first_put (other ∷ old) size = refl

behind_put : (old : List ℕ) (size : ℕ) → drop 1 (with_item old 0 size) ≡ drop 1 old
behind_put [] size = refl
behind_put (other ∷ old) size = refl

-- all volumes, where file 0 was made before them
pub sizes_made : (limits : Limits) (old : List ℕ) → sizes_to (with_item old 0 (2 + 2 * limits.slot)) limits.blocks limits.volumes ≡ made_sizes limits old
sizes_made limits old =
    let size : ℕ = 2 + 2 * limits.slot in
    let all : List ℕ = with_item old 0 size in
    let volumes : List ℕ = replicate limits.volumes limits.blocks in
    let behind : drop (1 + limits.volumes) all ≡ drop (1 + limits.volumes) old =
    sym (drop-drop limits.volumes 1 all) ∙ ap (drop limits.volumes) (behind_put old size) ∙ drop-drop limits.volumes 1 old in
    ap (λ (l : List ℕ). l ++ (volumes ++ drop (1 + limits.volumes) all)) (first_put old size)
    ∙ ap (λ (l : List ℕ). size ∷ (volumes ++ l)) behind
