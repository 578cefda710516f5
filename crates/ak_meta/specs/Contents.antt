-- What a view holds: the limits, the live ordinals, and what is known of each series. Numbers are spelled lowest byte first.
use Rattle.std.specs.Prelude.{ℕ, ◌≡◌, ◌+◌, ◌-◌, ◌*◌, ◌^◌, ◌<◌, ◌≤◌, ◌↔◌, List, [], ◌∷◌, ◌++◌, length, map, replicate, slice_index, sum, bytes_eq}
use Rattle.std.specs.List.{flat_map, AllByRecursion, IsDistinct}
use Rattle.byteorder.specs.Endian.{little_bytes}
use Rattle.ak_base.specs.Ranges.{AreLimits}
use Rattle.ak_base.specs.declared.limits.Limits.{Limits}
use Rattle.ak_base.specs.declared.point.Addr.{Addr}
use Rattle.ak_names.specs.Names.{DoesName}
use Rattle.ak_volumes.specs.Ordinals.{Ordinals, AreOrdinals, newest, newest_fill}
use Rattle.ak_meta.specs.declared.meta.SeriesMeta.{SeriesMeta}

pub record Content : Type 0 where
  pub limits : Limits
  pub ordinals : Ordinals
  pub series : List SeriesMeta

abbrev pub content : Limits → Ordinals → List SeriesMeta → Content
content limits ordinals series = record { limits = limits; ordinals = ordinals; series = series }

-- the six limits, 4 bytes each
unfoldable pub limits_bytes : Limits → List ℕ
limits_bytes l = little_bytes 4 l.volumes ++ little_bytes 4 l.blocks ++ little_bytes 4 l.slot ++ little_bytes 4 l.pool ++ little_bytes 4 l.every ++ little_bytes 4 l.scale

-- the format, the limits, the oldest live ordinal, and the numbers of live ordinals and of series: 40 bytes
unfoldable pub front_bytes : Limits → ℕ → ℕ → ℕ → List ℕ
front_bytes limits lo live series = little_bytes 4 1 ++ limits_bytes limits ++ little_bytes 4 lo ++ little_bytes 4 live ++ little_bytes 4 series

-- the fills of the live ordinals, and 0 for each volume that holds none: 4 bytes a volume
unfoldable pub fills_bytes : ℕ → List ℕ → List ℕ
fills_bytes volumes fills = flat_map (little_bytes 4) fills ++ replicate (4 * (volumes - length fills)) 0

-- the rescue addresses, 8 bytes each
abbrev pub rescue_bytes : List Addr → List ℕ
rescue_bytes rescue = flat_map (λ (a : Addr). little_bytes 8 a.0) rescue

-- a series: the length of its name (2), the name, the number of its leaves (8), its last time (8), 11 rescue addresses
unfoldable pub series_bytes : SeriesMeta → List ℕ
series_bytes s = little_bytes 2 (length s.name) ++ s.name ++ little_bytes 8 s.leaves ++ little_bytes 8 s.last ++ rescue_bytes s.rescue

-- the whole spelling
abbrev pub meta_bytes : Content → List ℕ
meta_bytes c = front_bytes c.limits c.ordinals.lo (length c.ordinals.fills) (length c.series) ++ fills_bytes c.limits.volumes c.ordinals.fills ++ flat_map series_bytes c.series

-- how long it is
abbrev pub size_of : Content → ℕ
size_of c = 40 + 4 * c.limits.volumes + sum (map (λ (s : SeriesMeta). 106 + length s.name) c.series)

-- a name that names itself alone
abbrev pub IsCanonical : List ℕ → Type 0
IsCanonical name = DoesName name (name ∷ [])

-- the rescue address of a level
abbrev pub rescue_at : List Addr → ℕ → ℕ
rescue_at rescue level = slice_index (map (λ (a : Addr). a.0) rescue) level

-- The name is canonical, there is no last time without a leaf, and a level has no rescue address exactly where there are
-- too few leaves for a node of it.
pub record IsSeries (s : SeriesMeta) : Type 0 where
  pub name : IsCanonical s.name
  pub leaves : s.leaves < 2 ^ 64
  pub last : s.last < 2 ^ 64
  pub unused : s.leaves ≡ 0 → s.last ≡ 0
  pub levels : length s.rescue ≡ 11
  pub addresses : AllByRecursion (λ (a : Addr). a.0 < 2 ^ 64) s.rescue
  pub rescue : (level : ℕ) → level ≤ 10 → (rescue_at s.rescue level ≡ 2 ^ 64 - 1) ↔ (s.leaves < 32 ^ level)

abbrev pub names_of : List SeriesMeta → List (List ℕ)
names_of series = map (λ (s : SeriesMeta). s.name) series

-- the leaves of all series
abbrev pub leaves_of : List SeriesMeta → ℕ
leaves_of series = sum (map (λ (s : SeriesMeta). s.leaves) series)

-- the blocks that were ever entered, where every ordinal before the newest is counted as full
abbrev pub room_of : Ordinals → ℕ
room_of o = newest o * o.blocks + newest_fill o

-- The rules: the limits are in their ranges, the ordinals are those of as many volumes of as many blocks, all volumes are
-- in use where an ordinal is live no more, each series keeps its rules, no two have one name, and each leaf has a block.
pub record IsMeta (c : Content) : Type 0 where
  pub limits_are : AreLimits c.limits
  pub volumes : c.ordinals.volumes ≡ c.limits.volumes
  pub blocks : c.ordinals.blocks ≡ c.limits.blocks
  pub ordinals_are : AreOrdinals c.ordinals
  pub full : 0 < c.ordinals.lo → length c.ordinals.fills ≡ c.limits.volumes
  pub few : length c.series < 2 ^ 32
  pub each : AllByRecursion IsSeries c.series
  pub apart : IsDistinct bytes_eq (names_of c.series)
  pub total : leaves_of c.series ≤ room_of c.ordinals

-- the bytes are the spelling of this content
pub record Spells (bytes : List ℕ) (c : Content) : Type 0 where
  pub rules_are : IsMeta c
  pub is : bytes ≡ meta_bytes c
