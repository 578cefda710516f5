-- The files of a host, each a list of blocks of 4096 bytes.
use Rattle.std.specs.Prelude.{◌≡◌, ◌⊎◌, ℕ, zero, suc, ◌<◌, List, [], ◌∷◌, length, slice_index_or, slice_set, replicate, All}

abbrev pub Files : Type 0
Files = List (List (List ℕ))

abbrev pub file_at : Files → ℕ → List (List ℕ)
file_at files file = slice_index_or files file []

abbrev pub block_at : Files → ℕ → ℕ → List ℕ
block_at files file index = slice_index_or (file_at files file) index []

-- the files with one block changed
abbrev pub with_block : Files → ℕ → ℕ → List ℕ → Files
with_block files file index block = slice_set files file (slice_set (file_at files file) index block)

-- the list with another item in a place, or with one more at its end
abbrev pub with_item : {A : Type 0} → List A → ℕ → A → List A
with_item [] at item = item ∷ []
with_item (x ∷ xs) zero item = item ∷ xs
with_item (x ∷ xs) (suc at) item = x ∷ with_item xs at item

unfoldable pub zero_block : List ℕ
zero_block = replicate 4096 0

-- a file of zero blocks
abbrev pub zero_blocks : ℕ → List (List ℕ)
zero_blocks blocks = replicate blocks zero_block

-- 4096 bytes
pub record IsBlock (block : List ℕ) : Type 0 where
  pub size : length block ≡ 4096
  pub bytes : All (λ byte. byte < 256) block

-- files of blocks
abbrev pub AreBlocks : Files → Type 0
AreBlocks files = All (λ file. All IsBlock file) files

-- new is old, but for one block, which holds any bytes
pub record Torn (file index : ℕ) (old new : Files) : Type 0 where
  pub block : List ℕ
  pub any_bytes : IsBlock block
  pub is : new ≡ with_block old file index block

-- new is old, but for one block, which may have changed to any bytes
abbrev pub MayBeTorn : ℕ → ℕ → Files → Files → Type 0
MayBeTorn file index old new = (new ≡ old) ⊎ Torn file index old new

-- new is old, or has a whole new file of zero blocks
abbrev pub Made : ℕ → ℕ → Files → Files → Type 0
Made file blocks old new = (new ≡ old) ⊎ (new ≡ with_item old file (zero_blocks blocks))
