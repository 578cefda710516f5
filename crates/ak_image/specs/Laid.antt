-- The leaves of a view as they are laid out in blocks.
use Rattle.std.specs.Prelude.{ℕ, zero, suc, ◌≡◌, ◌+◌, List, [], ◌∷◌, ◌++◌, length}
use Rattle.ak_base.specs.Points.{last_ts_from}
use Rattle.ak_base.specs.declared.point.Point.{Point}
use Rattle.ak_image.specs.Blocks.{Seen}
use Rattle.ak_image.specs.Chains.{IsChain}
use Rattle.ak_image.specs.Groups.{AreRows, AreInner}
use Rattle.ak_image.specs.Scans.{IsLeafOf, IsScan}
use Rattle.ak_image.specs.Trees.{IsTreeOf, AreTreed}
use Rattle.ak_levels.specs.Carries.{carry_of}
use Rattle.ak_meta.specs.Contents.{Content, rescue_at}
use Rattle.ak_meta.specs.Leaves.{new_series, with_leaf, leaves_at}
use Rattle.ak_meta.specs.declared.meta.SeriesMeta.{SeriesMeta}
use Rattle.ak_volumes.specs.Ordinals.{Ordinals, IsLive, newest, newest_fill, address, filled}
use Rattle.ak_world.specs.Leaves.{Leaf}

-- Of each series, from a number on, these leaves are what a scan finds, and they are a chain.
abbrev pub AreLaid : Seen → ℕ → List ℕ → ℕ → List SeriesMeta → List (List Leaf) → Type 0
AreLaid seen lo fills series [] kept = kept ≡ []
AreLaid seen lo fills series (known ∷ others) kept = (leaves : List Leaf) × (rest : List (List Leaf)) × (kept ≡ leaves ∷ rest)
    × IsScan seen series lo fills leaves × IsChain seen lo series known leaves × AreLaid seen lo fills (suc series) others rest

-- The live blocks by a record are sound, and these are the leaves in them.
pub record IsLaid (seen : Seen) (c : Content) (kept : List (List Leaf)) : Type 0 where
  pub rows : AreRows seen (length c.series) c.ordinals.lo c.ordinals.fills
  pub leaves : AreLaid seen c.ordinals.lo c.ordinals.fills 0 c.series kept
  pub trees : AreTreed c.ordinals seen 0 c.series kept

-- where the next group is to stand
abbrev pub spot : Ordinals → ℕ
spot o = address (newest o) (newest_fill o)

-- the address of the last leaf of a series, and its last timestamp
abbrev pub rescue_in : List SeriesMeta → ℕ → ℕ
rescue_in [] n = 0
rescue_in (s ∷ series) zero = rescue_at s.rescue 0
rescue_in (s ∷ series) (suc n) = rescue_in series n

abbrev pub last_in : List SeriesMeta → ℕ → ℕ
last_in [] n = 0
last_in (s ∷ series) zero = s.last
last_in (s ∷ series) (suc n) = last_in series n

-- the next leaf of a series, where its group is to stand
abbrev pub next_leaf : Content → ℕ → List Point → Leaf
next_leaf c n ps = record { number = leaves_at c.series n; address = spot c.ordinals; points = ps }

-- A group was written behind the live blocks: the next leaf of a series with these points, and the inner nodes of the levels
-- that it fills.
pub record IsWritten (old new : Seen) (c : Content) (n : ℕ) (ps : List Point) : Type 0 where
  pub same : (a : ℕ) → IsLive c.ordinals a → new a ≡ old a
  pub leaf : IsLeafOf new n (rescue_in c.series n) (next_leaf c n ps)
  pub inner : AreInner new n (leaves_at c.series n) (spot c.ordinals)

-- of one series, by its number
abbrev pub kept_in : List (List Leaf) → ℕ → List Leaf
kept_in [] n = []
kept_in (leaves ∷ kept) zero = leaves
kept_in (leaves ∷ kept) (suc n) = kept_in kept n

abbrev pub series_in : List SeriesMeta → ℕ → SeriesMeta
series_in [] n = new_series []
series_in (s ∷ series) zero = s
series_in (s ∷ series) (suc n) = series_in series n

-- the record of a series after the group is entered
abbrev pub next_known : Content → ℕ → List Point → SeriesMeta
next_known c n ps = with_leaf (series_in c.series n) (last_ts_from 0 ps) (spot c.ordinals)

-- With the group entered, the blocks of the series are the tree over its leaves and the next one.
abbrev pub IsNextTree : Seen → Content → List (List Leaf) → ℕ → List Point → Type 0
IsNextTree new c kept n ps = IsTreeOf (filled c.ordinals (1 + carry_of (leaves_at c.series n))) new n (next_known c n ps) (kept_in kept n ++ next_leaf c n ps ∷ [])
