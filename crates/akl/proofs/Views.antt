-- Lists of files, and how they are seen.
use Rattle.std.proofs.Common.{◌≡◌, ◌∙◌, ◌<◌, ℕ, zero, suc, List, [], ◌∷◌, length, map, slice_index_or, slice_set, refl, ap, sym}
use Rattle.std.proofs.lemmas.List.{get_or-map, map-set}
use Rattle.ak_host.specs.Files.{Files, with_block, with_item}

map-with_item : {A B : Type 0} (f : A → B) (items : List A) (at : ℕ) (item : A) → map f (with_item items at item) ≡ with_item (map f items) at (f item)
map-with_item f [] at item = refl
map-with_item f (x ∷ items) zero item = refl
map-with_item f (x ∷ items) (suc at) item = ap (λ l. f x ∷ l) (map-with_item f items at item)

-- a list that got an item, as it is seen
pub seen_with_item : {A B : Type 0} (f : A → B) (old new : List A) (seen : List B) (at : ℕ) (item : A) (is : B)
    → new ≡ with_item old at item → f item ≡ is → map f old ≡ seen → map f new ≡ with_item seen at is
seen_with_item f old new seen at item is got item_is old_is =
    ap (map f) got ∙ map-with_item f old at item ∙ ap (λ b. with_item (map f old) at b) item_is ∙ ap (λ l. with_item l at is) old_is

-- files of which one got a block, as they are seen
pub seen_with_block : {A : Type 0} (f : A → List (List ℕ)) (files : List A) (seen : Files) (file index : ℕ) (block : List ℕ) (old new : A)
    → map f files ≡ seen → file < length files → old ≡ slice_index_or files file old → f new ≡ slice_set (f old) index block
    → map f (slice_set files file new) ≡ with_block seen file index block
seen_with_block f files seen file index block old new files_are within old_is new_is =
    let old_seen : f old ≡ slice_index_or (map f files) file [] = ap f old_is ∙ sym (get_or-map f files file old [] within) in
    map-set f files file new ∙ ap (slice_set (map f files) file) (new_is ∙ ap (λ b. slice_set b index block) old_seen)
    ∙ ap (λ l. with_block l file index block) files_are
