-- Laws of a host in memory that its traits ask for.
use Rattle.std.specs.Prelude.{◌≡◌, ℕ, zero, suc, ◌<◌, false, List, [], ◌∷◌, length, map, replicate, slice_set, refl, All}
use Rattle.std.proofs.Common.{inl, inr, ap, sym, subst, lit<}
use Rattle.std.proofs.lemmas.List.{length-replicate}
use Rattle.std.proofs.lemmas.List.Elements.{All-nil, All-cons, All-head, All-tail, All-replicate}
use Rattle.ak_host.specs.Files.{Files, IsBlock, AreBlocks, zero_block, with_item}
use Rattle.ak_host.specs.Moments.{LeavesNow}
use Rattle.ak_memhost.specs.declared.drive.Cell.{Cell}
use Rattle.ak_memhost.specs.declared.call.Call.{Call}
use Rattle.ak_memhost.specs.declared.call.Call.TheVariants.{Make, Read, Write, Sync, Turn, Reply, Failure}
use Rattle.ak_memhost.specs.declared.mem_turn.MemTurn.{MemTurn}
use Rattle.ak_memhost.specs.Drive.{Drive, IsCellImage, IsFileImage, IsImage, zero_cell, settle_cell, file_contents, contents, sizes, with_cell, with_settled}
use Rattle.ak_memhost.specs.Record.{Stage, start, step, after, drive_after}
use Rattle.ak_memhost.specs.State.{at_rest, IsLeft, moments_of, block_of, WriteBlocks, instant_at, state_of}
use Rattle.ak_memhost.specs.Torn.{drive_within, drive_at}

-- the files as they read

pub file_reads : (cells : List Cell) → IsFileImage cells (file_contents cells)
file_reads [] = tt
file_reads (cell ∷ cells) = (inl refl, file_reads cells)

pub image_reads : (drive : Drive) → IsImage drive (contents drive)
image_reads [] = tt
image_reads (file ∷ files) = (file_reads file, image_reads files)

length-file_contents : (cells : List Cell) → length (file_contents cells) ≡ length cells
length-file_contents [] = refl
length-file_contents (cell ∷ cells) = ap suc (length-file_contents cells)

pub sizes-contents : (drive : Drive) → map length (contents drive) ≡ sizes drive
sizes-contents [] = refl
sizes-contents (file ∷ files) = λ i. length-file_contents file i ∷ sizes-contents files i

module _ (turns : List MemTurn) where
  pub instant_now : (begun : Stage) (calls : List Call) → instant_at turns begun calls (moments_of calls) ≡ at_rest (after turns begun calls)
  instant_now begun [] = refl
  instant_now begun (c ∷ calls) = instant_now (step turns begun c) calls

  pub left_now : (begun : Stage) (calls : List Call) (d p : ℕ) (disk : Files) → IsImage (after turns begun calls).drive disk → LeavesNow (state_of turns begun calls d p) disk
  left_now begun calls d p disk image = subst (λ i. IsLeft i.drives disk) (sym (instant_now begun calls)) (inl image)

  -- a stop now may leave the files as they read
  pub leaves_contents : (begun : Stage) (calls : List Call) (d p : ℕ) → LeavesNow (state_of turns begun calls d p) (state_of turns begun calls d p).files
  leaves_contents begun calls d p = left_now begun calls d p _ (image_reads (after turns begun calls).drive)

-- what a stop leaves of blocks

pub file_image_blocks : (cells : List Cell) (blocks : List (List ℕ)) → All IsBlock (file_contents cells) → IsFileImage cells blocks → All IsBlock blocks
file_image_blocks [] [] are image = All-nil IsBlock
file_image_blocks [] (b ∷ blocks) are image = absurd image
file_image_blocks (cell ∷ cells) [] are image = absurd image
file_image_blocks (cell ∷ cells) (b ∷ blocks) are image =
    All-cons IsBlock b blocks (here image.0) (file_image_blocks cells blocks (All-tail IsBlock cell.block (file_contents cells) are) image.1)
  where
    here : IsCellImage cell b → IsBlock b
    here (inl same) = subst IsBlock (sym same) (All-head IsBlock cell.block (file_contents cells) are)
    here (inr torn) = torn.1

pub image_blocks : (drive : Drive) (disk : Files) → AreBlocks (contents drive) → IsImage drive disk → AreBlocks disk
image_blocks [] [] are image = All-nil (All IsBlock)
image_blocks [] (blocks ∷ disk) are image = absurd image
image_blocks (file ∷ drive) [] are image = absurd image
image_blocks (file ∷ drive) (blocks ∷ disk) are image =
    All-cons (All IsBlock) blocks disk
    (file_image_blocks file blocks (All-head (All IsBlock) (file_contents file) (contents drive) are) image.0)
    (image_blocks drive disk (All-tail (All IsBlock) (file_contents file) (contents drive) are) image.1)

-- the blocks after each call

pub zero_is_block : IsBlock zero_block
unfolding zero_block
zero_is_block = record { size = length-replicate {A = ℕ} 4096 0; bytes = All-replicate (λ byte. byte < 256) 4096 0 (lit< tt) }

zeros_are_blocks : (blocks : ℕ) → All IsBlock (file_contents (replicate blocks zero_cell))
zeros_are_blocks zero = All-nil IsBlock
zeros_are_blocks (suc blocks) = All-cons IsBlock zero_block (file_contents (replicate blocks zero_cell)) zero_is_block (zeros_are_blocks blocks)

made_blocks : (drive : Drive) (file blocks : ℕ) → AreBlocks (contents drive) → AreBlocks (contents (with_item drive file (replicate blocks zero_cell)))
made_blocks [] file blocks are = All-cons (All IsBlock) (file_contents (replicate blocks zero_cell)) [] (zeros_are_blocks blocks) (All-nil (All IsBlock))
made_blocks (cells ∷ drive) zero blocks are =
    All-cons (All IsBlock) (file_contents (replicate blocks zero_cell)) (contents drive) (zeros_are_blocks blocks) (All-tail (All IsBlock) (file_contents cells) (contents drive) are)
made_blocks (cells ∷ drive) (suc file) blocks are =
    All-cons (All IsBlock) (file_contents cells) (contents (with_item drive file (replicate blocks zero_cell)))
    (All-head (All IsBlock) (file_contents cells) (contents drive) are)
    (made_blocks drive file blocks (All-tail (All IsBlock) (file_contents cells) (contents drive) are))

set_blocks : (cells : List Cell) (index : ℕ) (cell : Cell) → IsBlock cell.block → All IsBlock (file_contents cells) → All IsBlock (file_contents (slice_set cells index cell))
set_blocks [] index cell is are = are
set_blocks (c ∷ cells) zero cell is are = All-cons IsBlock cell.block (file_contents cells) is (All-tail IsBlock c.block (file_contents cells) are)
set_blocks (c ∷ cells) (suc index) cell is are =
    All-cons IsBlock c.block (file_contents (slice_set cells index cell)) (All-head IsBlock c.block (file_contents cells) are)
    (set_blocks cells index cell is (All-tail IsBlock c.block (file_contents cells) are))

pub written_blocks : (drive : Drive) (file index : ℕ) (cell : Cell) → IsBlock cell.block → AreBlocks (contents drive) → AreBlocks (contents (with_cell drive file index cell))
written_blocks [] file index cell is are = are
written_blocks (cells ∷ drive) zero index cell is are =
    All-cons (All IsBlock) (file_contents (slice_set cells index cell)) (contents drive)
    (set_blocks cells index cell is (All-head (All IsBlock) (file_contents cells) (contents drive) are))
    (All-tail (All IsBlock) (file_contents cells) (contents drive) are)
written_blocks (cells ∷ drive) (suc file) index cell is are =
    All-cons (All IsBlock) (file_contents cells) (contents (with_cell drive file index cell))
    (All-head (All IsBlock) (file_contents cells) (contents drive) are)
    (written_blocks drive file index cell is (All-tail (All IsBlock) (file_contents cells) (contents drive) are))

settled_file_blocks : (cells : List Cell) → All IsBlock (file_contents cells) → All IsBlock (file_contents (map settle_cell cells))
settled_file_blocks [] are = are
settled_file_blocks (cell ∷ cells) are =
    All-cons IsBlock cell.block (file_contents (map settle_cell cells)) (All-head IsBlock cell.block (file_contents cells) are)
    (settled_file_blocks cells (All-tail IsBlock cell.block (file_contents cells) are))

settled_blocks : (drive : Drive) (file : ℕ) → AreBlocks (contents drive) → AreBlocks (contents (with_settled drive file))
settled_blocks [] file are = are
settled_blocks (cells ∷ drive) zero are =
    All-cons (All IsBlock) (file_contents (map settle_cell cells)) (contents drive)
    (settled_file_blocks cells (All-head (All IsBlock) (file_contents cells) (contents drive) are))
    (All-tail (All IsBlock) (file_contents cells) (contents drive) are)
settled_blocks (cells ∷ drive) (suc file) are =
    All-cons (All IsBlock) (file_contents cells) (contents (with_settled drive file))
    (All-head (All IsBlock) (file_contents cells) (contents drive) are)
    (settled_blocks drive file (All-tail (All IsBlock) (file_contents cells) (contents drive) are))

pub step_blocks : (drive : Drive) (call : Call) → IsBlock (block_of call) → AreBlocks (contents drive) → AreBlocks (contents (drive_after drive call))
step_blocks drive (Make file blocks) is are = made_blocks drive file blocks are
step_blocks drive (Write file index block) is are = written_blocks drive file index (record { block = block; synced = false }) is are
step_blocks drive (Sync file) is are = settled_blocks drive file are
step_blocks drive Read is are = are
step_blocks drive Turn is are = are
step_blocks drive (Reply port bytes) is are = are
step_blocks drive Failure is are = are

first_block : (call : Call) (calls : List Call) → WriteBlocks (call ∷ calls) → IsBlock (block_of call)
first_block call calls written = All-head (λ c. IsBlock (block_of c)) call calls written

other_blocks : (call : Call) (calls : List Call) → WriteBlocks (call ∷ calls) → WriteBlocks calls
other_blocks call calls written = All-tail (λ c. IsBlock (block_of c)) call calls written

-- and at each moment

within_blocks : (drive : Drive) (call : Call) → IsBlock (block_of call) → AreBlocks (contents drive) → AreBlocks (contents (drive_within drive call))
within_blocks drive (Write file index block) is are = written_blocks drive file index (record { block = block; synced = false }) is are
within_blocks drive (Make file blocks) is are = are
within_blocks drive (Sync file) is are = are
within_blocks drive Read is are = are
within_blocks drive Turn is are = are
within_blocks drive (Reply port bytes) is are = are
within_blocks drive Failure is are = are

pub moment_blocks : (drive : Drive) (calls : List Call) (t : ℕ) → AreBlocks (contents drive) → WriteBlocks calls → AreBlocks (contents (drive_at drive calls t))
moment_blocks drive [] t are written = are
moment_blocks drive (call ∷ calls) zero are written = are
moment_blocks drive (call ∷ calls) (suc zero) are written = within_blocks drive call (first_block call calls written) are
moment_blocks drive (call ∷ calls) (suc (suc t)) are written =
    moment_blocks (drive_after drive call) calls t (step_blocks drive call (first_block call calls written) are) (other_blocks call calls written)

module _ (turns : List MemTurn) where
  pub after_blocks : (stage : Stage) (calls : List Call) → AreBlocks (contents stage.drive) → WriteBlocks calls → AreBlocks (contents (after turns stage calls).drive)
  after_blocks stage [] are written = are
  after_blocks stage (call ∷ calls) are written =
      after_blocks (step turns stage call) calls (step_blocks stage.drive call (first_block call calls written) are) (other_blocks call calls written)

  pub leaves_blocks : (base : Drive) (calls : List Call) (d p : ℕ) → AreBlocks (contents base) → WriteBlocks calls → (disk : Files) → LeavesNow (state_of turns (start base) calls d p) disk → AreBlocks disk
  leaves_blocks base calls d p are written disk left = only (subst (λ i. IsLeft i.drives disk) (instant_now turns (start base) calls) left)
    where
      only : IsLeft ((after turns (start base) calls).drive ∷ []) disk → AreBlocks disk
      only (inl image) = image_blocks (after turns (start base) calls).drive disk (after_blocks (start base) calls are written) image
      only (inr none) = absurd none
