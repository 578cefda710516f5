-- The blocks of a disk by their addresses.
use Rattle.std.specs.Prelude.{ℕ, ◌<◌, ◌≤◌, List, length, slice_index}
use Rattle.ak_host.specs.Files.{Files, file_at, block_at}
use Rattle.ak_host.specs.Moments.{HostState}
use Rattle.ak_volumes.specs.Ordinals.{Ordinals, ordinal_of, index_of, file_in}

-- the block at each address
abbrev pub Seen : Type 0
Seen = ℕ → List ℕ

-- as a disk with so many volumes reads: an ordinal stands in the file of its volume
abbrev pub seen_in : ℕ → Files → Seen
seen_in volumes disk a = block_at disk (file_in volumes (ordinal_of a)) (index_of a)

-- the file of each volume is there, with so many blocks at least
abbrev pub HasVolumes : ℕ → ℕ → Files → Type 0
HasVolumes volumes blocks disk = (file : ℕ) → 1 ≤ file → file ≤ volumes → blocks ≤ length (file_at disk file)

-- the same by the sizes that the host tells
pub record AreThere (o : Ordinals) (host : HostState) : Type 0 where
  pub number : o.volumes < length host.sizes
  pub each : (file : ℕ) → 1 ≤ file → file ≤ o.volumes → o.blocks ≤ slice_index host.sizes file
