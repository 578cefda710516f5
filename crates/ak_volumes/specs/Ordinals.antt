-- Ordinals count the uses of volumes from 0. Those that are live have a fill each: how many of their blocks are used.
use Rattle.std.specs.Prelude.{ℕ, ◌≡◌, ◌+◌, ◌-◌, ◌*◌, ◌/◌, ◌%◌, ◌^◌, ◌<◌, ◌≤◌, List, [], ◌∷◌, ◌++◌, length, drop, slice_index, slice_set, nat_lt, if◌then◌else◌}
use Rattle.std.specs.List.{AllByRecursion}

-- the live ordinals from lo on by their fills, that of lo first
pub record Ordinals : Type 0 where
  pub volumes : ℕ
  pub blocks : ℕ
  pub lo : ℕ
  pub fills : List ℕ

abbrev pub ordinals : ℕ → ℕ → ℕ → List ℕ → Ordinals
ordinals volumes blocks lo fills = record { volumes = volumes; blocks = blocks; lo = lo; fills = fills }

-- the newest ordinal, and its fill
abbrev pub newest : Ordinals → ℕ
newest o = o.lo + length o.fills - 1

abbrev pub newest_fill : Ordinals → ℕ
newest_fill o = slice_index o.fills (length o.fills - 1)

-- At least one ordinal is live, at most as many as there are volumes, no fill is over the blocks of a volume, and the
-- newest ordinal is below 2^32.
pub record AreOrdinals (o : Ordinals) : Type 0 where
  pub some : 0 < length o.fills
  pub most : length o.fills ≤ o.volumes
  pub within : AllByRecursion (λ fill. fill ≤ o.blocks) o.fills
  pub last : o.lo + length o.fills ≤ 2 ^ 32
  pub indexes : o.blocks < 2 ^ 32

-- an address, and the ordinal and the index in it
abbrev pub address : ℕ → ℕ → ℕ
address ordinal index = ordinal * 2 ^ 32 + index

abbrev pub ordinal_of : ℕ → ℕ
ordinal_of a = a / 2 ^ 32

abbrev pub index_of : ℕ → ℕ
index_of a = a % 2 ^ 32

-- the fill of a live ordinal
abbrev pub fill_of : Ordinals → ℕ → ℕ
fill_of o ordinal = slice_index o.fills (ordinal - o.lo)

pub record IsLiveOrdinal (o : Ordinals) (ordinal : ℕ) : Type 0 where
  pub from : o.lo ≤ ordinal
  pub to : ordinal < o.lo + length o.fills

-- an address whose ordinal is live and whose index is below that ordinal's fill
pub record IsLive (o : Ordinals) (a : ℕ) : Type 0 where
  pub ordinal : IsLiveOrdinal o (ordinal_of a)
  pub index : index_of a < fill_of o (ordinal_of a)

-- the file in which an ordinal stands, of so many volumes
abbrev pub file_in : ℕ → ℕ → ℕ
file_in volumes ordinal = 1 + ordinal % volumes

abbrev pub file_of : Ordinals → ℕ → ℕ
file_of o ordinal = file_in o.volumes ordinal

-- The fill of the newest ordinal grows.
abbrev pub filled : Ordinals → ℕ → Ordinals
filled o blocks = record o { fills = slice_set o.fills (length o.fills - 1) (newest_fill o + blocks) }

-- A new ordinal begins with fill 0, and the oldest one is live no more where too many would be.
abbrev pub switched : Ordinals → Ordinals
switched o =
    if nat_lt o.volumes (length o.fills + 1)
    then record o { lo = o.lo + 1; fills = drop 1 o.fills ++ 0 ∷ [] }
    else record o { fills = o.fills ++ 0 ∷ [] }

-- The number and the size of volumes stay. Ordinals may begin, of which those that are still live hold at least what they held.
pub record HasGrown (old new : Ordinals) : Type 0 where
  pub volumes : new.volumes ≡ old.volumes
  pub blocks : new.blocks ≡ old.blocks
  pub lo : old.lo ≤ new.lo
  pub live : (a : ℕ) → IsLive old a → new.lo ≤ ordinal_of a → IsLive new a
