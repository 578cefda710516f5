-- A gate as it was written, and what a stop leaves of file 0 meanwhile.
use Rattle.std.specs.Prelude.{◌≡◌, ◌⊎◌, ℕ, ◌<◌, List, slice_index, slice_set}
use Rattle.ak_host.specs.Files.{Files, IsBlock, file_at, with_block}

-- the files with a block of file 0 changed to one with this first byte, and zeros behind it
pub record Wrote (index first : ℕ) (old new : Files) : Type 0 where
  pub block : List ℕ
  pub first_byte : slice_index block 0 ≡ first
  pub zeros : (k : ℕ) → 0 < k → slice_index block k ≡ 0
  pub is : new ≡ with_block old 0 index block

-- file 0 of a disk is this one, but for a block that may hold any bytes
abbrev pub IsTornAt : ℕ → List (List ℕ) → Files → Type 0
IsTornAt index file disk = (file_at disk 0 ≡ file) ⊎ ((block : List ℕ) × IsBlock block × (file_at disk 0 ≡ slice_set file index block))
