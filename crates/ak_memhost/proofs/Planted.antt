-- A block that is set before any call.
use Rattle.std.proofs.Common.{◌≡◌, ◌↔◌, inl, inr, ℕ, zero, suc, true, List, [], ◌∷◌, slice_set, refl, sym, ap, subst, arith}
use Rattle.ak_host.specs.Files.{Files, with_block}
use Rattle.ak_host.specs.Moments.{LeavesNow}
use Rattle.ak_memhost.specs.declared.heard.PortBytes.{PortBytes}
use Rattle.ak_memhost.specs.declared.mem_turn.MemTurn.{MemTurn}
use Rattle.ak_memhost.specs.declared.drive.Cell.{Cell}
use Rattle.ak_memhost.specs.declared.call.Call.{Call}
use Rattle.ak_memhost.specs.Drive.{Drive, IsCellImage, IsFileImage, IsImage, with_cell}
use Rattle.ak_memhost.specs.Fresh.{IsPlanted, IsSameBut}
use Rattle.ak_memhost.specs.Record.{start, after, Current}
use Rattle.ak_memhost.specs.State.{IsLeft, moments_of, state_of}
use Rattle.ak_memhost.proofs.Images.{contents-with_cell, sizes-with_cell}

abbrev stable_cell : List ℕ → Cell
stable_cell block = record { block = block; synced = true }

-- what a stop leaves of a file with it

record PlantedFile (cells : List Cell) (index : ℕ) (block : List ℕ) (blocks : List (List ℕ)) : Type 0 where
  pub before : List (List ℕ)
  pub image : IsFileImage cells before
  pub is : blocks ≡ slice_set before index block

stable_block : (block new : List ℕ) → IsCellImage (stable_cell block) new → new ≡ block
stable_block block new (inl same) = same
stable_block block new (inr torn) = cc (torn.0)

planted_file : (cells : List Cell) (index : ℕ) (block : List ℕ) (blocks : List (List ℕ)) → IsFileImage (slice_set cells index (stable_cell block)) blocks → PlantedFile cells index block blocks
planted_file [] index block [] image = record { before = []; image = tt; is = refl }
planted_file [] index block (b ∷ blocks) image = absurd image
planted_file (c ∷ cells) zero block [] image = absurd image
planted_file (c ∷ cells) zero block (b ∷ blocks) image = record { before = c.block ∷ blocks; image = (inl refl, image.1); is = ap (λ x. x ∷ blocks) (stable_block block b image.0) }
planted_file (c ∷ cells) (suc index) block [] image = absurd image
planted_file (c ∷ cells) (suc index) block (b ∷ blocks) image =
    let rest = planted_file cells index block blocks image.1 in
    record { before = b ∷ rest.before; image = (image.0, rest.image); is = ap (λ bs. b ∷ bs) rest.is }

file_planted : (cells : List Cell) (index : ℕ) (block : List ℕ) (before : List (List ℕ)) → IsFileImage cells before → IsFileImage (slice_set cells index (stable_cell block)) (slice_set before index block)
file_planted [] index block [] image = tt
file_planted [] index block (b ∷ before) image = absurd image
file_planted (c ∷ cells) zero block [] image = absurd image
file_planted (c ∷ cells) zero block (b ∷ before) image = (inl refl, image.1)
file_planted (c ∷ cells) (suc index) block [] image = absurd image
file_planted (c ∷ cells) (suc index) block (b ∷ before) image = (image.0, file_planted cells index block before image.1)

-- and of all files

planted_image : (drive : Drive) (file index : ℕ) (block : List ℕ) (disk : Files) → IsImage (with_cell drive file index (stable_cell block)) disk
    → (before : Files) × IsImage drive before × (disk ≡ with_block before file index block)
planted_image [] file index block [] image = ([], tt, refl)
planted_image [] file index block (b ∷ disk) image = absurd image
planted_image (cells ∷ drive) zero index block [] image = absurd image
planted_image (cells ∷ drive) zero index block (blocks ∷ disk) image =
    let planted = planted_file cells index block blocks image.0 in
    (planted.before ∷ disk, (planted.image, image.1), ap (λ bs. bs ∷ disk) planted.is)
planted_image (cells ∷ drive) (suc file) index block [] image = absurd image
planted_image (cells ∷ drive) (suc file) index block (blocks ∷ disk) image =
    let rest = planted_image drive file index block disk image.1 in
    (blocks ∷ rest.0, (image.0, rest.1), ap (λ fs. blocks ∷ fs) rest.2)

image_planted : (drive : Drive) (file index : ℕ) (block : List ℕ) (before : Files) → IsImage drive before → IsImage (with_cell drive file index (stable_cell block)) (with_block before file index block)
image_planted [] file index block [] image = tt
image_planted [] file index block (b ∷ before) image = absurd image
image_planted (cells ∷ drive) zero index block [] image = absurd image
image_planted (cells ∷ drive) zero index block (b ∷ before) image = (file_planted cells index block b image.0, image.1)
image_planted (cells ∷ drive) (suc file) index block [] image = absurd image
image_planted (cells ∷ drive) (suc file) index block (b ∷ before) image = (image.0, image_planted drive file index block before image.1)

only : (drive : Drive) (disk : Files) → IsLeft (drive ∷ []) disk → IsImage drive disk
only drive disk (inl image) = image
only drive disk (inr none) = absurd none

module _ (turns : List MemTurn) (base : Drive) (file index : ℕ) (block : List ℕ) (d p : ℕ) where
  abbrev planted : Drive
  planted = with_cell base file index (stable_cell block)

  pub planted_current : (files : Drive) (calls : List Call) (next : ℕ) (heard : List PortBytes) → moments_of calls ≡ 0 → Current turns files next heard (after turns (start base) calls)
      → Current turns (with_cell files file index (stable_cell block)) next heard (after turns (start planted) calls)
  planted_current files [] next heard none current = record {
    files_are = ap (λ drive. with_cell drive file index (stable_cell block)) current.files_are;
    next_is = current.next_is;
    heard_is = current.heard_is;
  }
  planted_current files (c ∷ calls) next heard none current = absurd (omega (arith, none))

  pub planted_files : (calls : List Call) → moments_of calls ≡ 0 → (state_of turns (start planted) calls d p).files ≡ with_block (state_of turns (start base) calls d p).files file index block
  planted_files [] none = contents-with_cell base file index (stable_cell block)
  planted_files (c ∷ calls) none = absurd (omega (arith, none))

  pub planted_sizes : (calls : List Call) → moments_of calls ≡ 0 → (state_of turns (start planted) calls d p).sizes ≡ (state_of turns (start base) calls d p).sizes
  planted_sizes [] none = sizes-with_cell base file index (stable_cell block)
  planted_sizes (c ∷ calls) none = absurd (omega (arith, none))

  pub planted_same : (calls : List Call) → moments_of calls ≡ 0 → IsSameBut (state_of turns (start base) calls d p) (state_of turns (start planted) calls d p)
  planted_same [] none = record { moment = refl; mark = refl; disk_faults = refl; port_faults = refl; reads = refl; writes = refl }
  planted_same (c ∷ calls) none = absurd (omega (arith, none))

  pub planted_left : (calls : List Call) → moments_of calls ≡ 0 → (disk : Files)
      → LeavesNow (state_of turns (start planted) calls d p) disk ↔ IsPlanted file index block (state_of turns (start base) calls d p) disk
  planted_left [] none disk = (
    λ left. let from = planted_image base file index block disk (only planted disk left) in (from.0, inl from.1, from.2),
    λ from. inl (subst (IsImage planted) (sym from.2) (image_planted base file index block from.0 (only base from.0 from.1))),
  )
  planted_left (c ∷ calls) none disk = absurd (omega (arith, none))
