-- The disk with given tears is one that a stop may leave.
use Rattle.std.proofs.lemmas.List.{take_more, length-take}
use Rattle.std.proofs.Common.{◌≡◌, inl, inr, take, get_or, suc, add-zero, ℕ, ◌+◌, ◌<◌, List, [], ◌∷◌, ◌++◌, length, refl, sym, ◌∙◌, ap, subst, arith}
use Rattle.ak_host.specs.Files.{Files}
use Rattle.ak_memhost.specs.declared.drive.Cell.{Cell}
use Rattle.ak_memhost.specs.declared.drive.Tear.{Tear}
use Rattle.ak_memhost.specs.Drive.{Drive, IsCellImage, IsFileImage, IsImage, file_contents, contents}
use Rattle.ak_memhost.specs.Torn.{torn_cell, torn_cells, torn_from, torn}

-- one cell or file more, of which a stop may leave what is pushed

file_image_push : (cells out : List Cell) (cell torn : Cell) → IsFileImage cells (file_contents out) → IsCellImage cell torn.block → IsFileImage (cells ++ cell ∷ []) (file_contents (out ++ torn ∷ []))
file_image_push [] [] cell torn image is = (is, tt)
file_image_push [] (o ∷ out) cell torn image is = absurd image
file_image_push (c ∷ cells) [] cell torn image is = absurd image
file_image_push (c ∷ cells) (o ∷ out) cell torn image is = (image.0, file_image_push cells out cell torn image.1 is)

image_push : (drive out : Drive) (cells torn : List Cell) → IsImage drive (contents out) → IsFileImage cells (file_contents torn) → IsImage (drive ++ cells ∷ []) (contents (out ++ torn ∷ []))
image_push [] [] cells torn image is = (is, tt)
image_push [] (o ∷ out) cells torn image is = absurd image
image_push (d ∷ drive) [] cells torn image is = absurd image
image_push (d ∷ drive) (o ∷ out) cells torn image is = (image.0, image_push drive out cells torn image.1 is)

pub file_image_more : (cells : List Cell) (index : ℕ) (out more : List Cell) (cell torn : Cell) → index < length cells → IsFileImage (take index cells) (file_contents out)
    → cell ≡ get_or cells index cell → IsCellImage cell torn.block → more ≡ out ++ torn ∷ [] → IsFileImage (take (index + 1) cells) (file_contents more)
file_image_more cells index out more cell torn within so_far at is pushed =
    subst (λ cs. IsFileImage cs (file_contents more)) (ap (λ x. take index cells ++ x ∷ []) at ∙ sym (take_more cells index cell within))
    (subst (λ (o : List Cell). IsFileImage (take index cells ++ cell ∷ []) (file_contents o)) (sym pushed) (file_image_push (take index cells) out cell torn so_far is))

pub image_more : (drive : Drive) (number : ℕ) (out more : Drive) (cells torn : List Cell) → number < length drive → IsImage (take number drive) (contents out)
    → cells ≡ get_or drive number cells → IsFileImage cells (file_contents torn) → more ≡ out ++ torn ∷ [] → IsImage (take (number + 1) drive) (contents more)
image_more drive number out more cells torn within so_far at is pushed =
    subst (λ ds. IsImage ds (contents more)) (ap (λ x. take number drive ++ x ∷ []) at ∙ sym (take_more drive number cells within))
    (subst (λ (o : Drive). IsImage (take number drive ++ cells ∷ []) (contents o)) (sym pushed) (image_push (take number drive) out cells torn so_far is))

-- the torn cells, one more
torn_cells-push : (tears : List Tear) (file index : ℕ) (cells : List Cell) (cell : Cell) → torn_cells tears file index (cells ++ cell ∷ []) ≡ torn_cells tears file index cells ++ torn_cell tears file (index + length cells) cell ∷ []
torn_cells-push tears file index [] cell = ap (λ i. torn_cell tears file i cell ∷ []) (sym (add-zero index))
torn_cells-push tears file index (c ∷ cells) cell =
    let at : index + 1 + length cells ≡ index + suc (length cells) = omega arith in
    ap (λ l. torn_cell tears file index c ∷ l) (torn_cells-push tears file (index + 1) cells cell ∙ ap (λ i. torn_cells tears file (index + 1) cells ++ torn_cell tears file i cell ∷ []) at)

torn_from-push : (tears : List Tear) (file : ℕ) (drive : Drive) (cells : List Cell) → torn_from tears file (drive ++ cells ∷ []) ≡ torn_from tears file drive ++ torn_cells tears (file + length drive) 0 cells ∷ []
torn_from-push tears file [] cells = ap (λ f. torn_cells tears f 0 cells ∷ []) (sym (add-zero file))
torn_from-push tears file (d ∷ drive) cells =
    let at : file + 1 + length drive ≡ file + suc (length drive) = omega arith in
    ap (λ l. torn_cells tears file 0 d ∷ l) (torn_from-push tears (file + 1) drive cells ∙ ap (λ f. torn_from tears (file + 1) drive ++ torn_cells tears f 0 cells ∷ []) at)

pub torn_cells_more : (tears : List Tear) (file : ℕ) (cells : List Cell) (index : ℕ) (out more : List Cell) (cell : Cell) → index < length cells → out ≡ torn_cells tears file 0 (take index cells)
    → cell ≡ get_or cells index cell → more ≡ out ++ torn_cell tears file index cell ∷ [] → more ≡ torn_cells tears file 0 (take (index + 1) cells)
torn_cells_more tears file cells index out more cell within so_far at is =
    let long : 0 + length (take index cells) ≡ index = omega (arith, length-take index cells) in
    is ∙ ap (λ l. l ++ torn_cell tears file index cell ∷ []) so_far
    ∙ ap (λ i. torn_cells tears file 0 (take index cells) ++ torn_cell tears file i cell ∷ []) (sym long)
    ∙ sym (torn_cells-push tears file 0 (take index cells) cell)
    ∙ ap (torn_cells tears file 0) (ap (λ x. take index cells ++ x ∷ []) at ∙ sym (take_more cells index cell within))

pub torn_more : (tears : List Tear) (drive : Drive) (number : ℕ) (out more : Drive) (cells : List Cell) → number < length drive → out ≡ torn tears (take number drive)
    → cells ≡ get_or drive number cells → more ≡ out ++ torn_cells tears number 0 cells ∷ [] → more ≡ torn tears (take (number + 1) drive)
torn_more tears drive number out more cells within so_far at is =
    let long : 0 + length (take number drive) ≡ number = omega (arith, length-take number drive) in
    is ∙ ap (λ l. l ++ torn_cells tears number 0 cells ∷ []) so_far
    ∙ ap (λ f. torn tears (take number drive) ++ torn_cells tears f 0 cells ∷ []) (sym long)
    ∙ sym (torn_from-push tears 0 (take number drive) cells)
    ∙ ap (torn tears) (ap (λ x. take number drive ++ x ∷ []) at ∙ sym (take_more drive number cells within))

-- nothing is unsynced in it
cells_settled : (tears : List Tear) (file index : ℕ) (cells : List Cell) (blocks : List (List ℕ)) → IsFileImage (torn_cells tears file index cells) blocks → blocks ≡ file_contents (torn_cells tears file index cells)
cells_settled tears file index [] [] image = refl
cells_settled tears file index [] (b ∷ blocks) image = absurd image
cells_settled tears file index (cell ∷ cells) [] image = absurd image
cells_settled tears file index (cell ∷ cells) (b ∷ blocks) image = λ i. same image.0 i ∷ cells_settled tears file (index + 1) cells blocks image.1 i
  where
    same : IsCellImage (torn_cell tears file index cell) b → b ≡ (torn_cell tears file index cell).block
    same (inl is) = is
    same (inr unsynced) = cc (unsynced.0)

from_settled : (tears : List Tear) (file : ℕ) (drive : Drive) (disk : Files) → IsImage (torn_from tears file drive) disk → disk ≡ contents (torn_from tears file drive)
from_settled tears file [] [] image = refl
from_settled tears file [] (blocks ∷ disk) image = absurd image
from_settled tears file (cells ∷ drive) [] image = absurd image
from_settled tears file (cells ∷ drive) (blocks ∷ disk) image = λ i. cells_settled tears file 0 cells blocks image.0 i ∷ from_settled tears (file + 1) drive disk image.1 i

pub torn_settled : (tears : List Tear) (drive : Drive) (disk : Files) → IsImage (torn tears drive) disk → disk ≡ contents (torn tears drive)
torn_settled tears drive disk image = from_settled tears 0 drive disk image
