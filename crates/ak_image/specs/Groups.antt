-- The groups of blocks in which leaves stand.
use Rattle.std.specs.Prelude.{ℕ, suc, ◌≡◌, ◌+◌, ◌/◌, ◌^◌, ◌<◌, ◌≤◌, List, [], ◌∷◌}
use Rattle.ak_image.specs.Blocks.{Seen}
use Rattle.ak_image.specs.Nodes.{IsInnerAt}
use Rattle.ak_image.specs.Scans.{IsLeafOf}
use Rattle.ak_levels.specs.Carries.{carry_of}
use Rattle.ak_volumes.specs.Ordinals.{address}
use Rattle.ak_world.specs.Leaves.{Leaf}

-- a leaf of a series that begins a group, with its elder
pub record Group : Type 0 where
  pub series : ℕ
  pub elder : ℕ
  pub leaf : Leaf

-- behind the leaf of this number at an address stand the inner nodes of its group: one for each level that the leaf fills
abbrev pub AreInner : Seen → ℕ → ℕ → ℕ → Type 0
AreInner seen series m a = (level : ℕ) → 1 ≤ level → level ≤ carry_of m → IsInnerAt seen series level (m / 32 ^ level) (a + level)

-- So many blocks from an address on are those of these groups of known series, one behind another. A group is a leaf, and an
-- inner node for each level that the leaf fills.
abbrev pub AreGroups : Seen → ℕ → ℕ → ℕ → List Group → Type 0
AreGroups seen known count a [] = count ≡ 0
AreGroups seen known count a (g ∷ gs) = (g.series < known) × (g.leaf.address ≡ a) × IsLeafOf seen g.series g.elder g.leaf
    × AreInner seen g.series g.leaf.number a
    × (rest : ℕ) × (count ≡ 1 + carry_of g.leaf.number + rest) × AreGroups seen known rest (a + (1 + carry_of g.leaf.number)) gs

-- the blocks of each live ordinal from one on are a row of groups
abbrev pub AreRows : Seen → ℕ → ℕ → List ℕ → Type 0
AreRows seen known ordinal [] = Unit {0}
AreRows seen known ordinal (fill ∷ fills) = ((groups : List Group) × AreGroups seen known fill (address ordinal 0) groups) × AreRows seen known (suc ordinal) fills
