-- The files of the volumes, by the sizes of all files.
use Rattle.std.specs.Prelude.{ℕ, ◌≡◌, ◌<◌, ◌≤◌, List, length, slice_index}
use Rattle.ak_base.specs.declared.limits.Limits.{Limits}

-- the file of each volume is there, with at least the blocks of a volume
abbrev pub AreThere : Limits → List ℕ → Type 0
AreThere limits sizes = (limits.volumes < length sizes) × ((file : ℕ) → 1 ≤ file → file ≤ limits.volumes → limits.blocks ≤ slice_index sizes file)

-- the first file of a volume that has fewer blocks than a volume, which may be none
pub record IsShort (limits : Limits) (sizes : List ℕ) (file blocks : ℕ) : Type 0 where
  pub volume : 1 ≤ file
  pub among : file ≤ limits.volumes
  pub has : slice_index sizes file ≡ blocks
  pub short : blocks < limits.blocks
  pub first : (other : ℕ) → 1 ≤ other → other < file → limits.blocks ≤ slice_index sizes other
