-- The leaves that stand in the live blocks.
use Rattle.std.specs.Prelude.{ℕ, zero, suc, ◌≡◌, ◌⊎◌, ◌+◌, List, [], ◌∷◌, ◌++◌}
use Rattle.ak_bytes.specs.declared.head.Head.{Head}
use Rattle.ak_image.specs.Blocks.{Seen}
use Rattle.ak_leaf.specs.Leaf.{SpellsLeaf}
use Rattle.ak_volumes.specs.Ordinals.{address}
use Rattle.ak_world.specs.Leaves.{Leaf}

-- the block at a leaf's address spells it as one of this series, with this elder
pub record IsLeafOf (seen : Seen) (series elder : ℕ) (leaf : Leaf) : Type 0 where
  pub head : Head
  pub spells : SpellsLeaf (seen leaf.address) head leaf.points
  pub series_is : head.series ≡ series
  pub number_is : head.number ≡ leaf.number
  pub address_is : head.addr.0 ≡ leaf.address
  pub elder_is : head.elder.0 ≡ elder

-- the block at an address spells a leaf of this series
pub record IsFound (seen : Seen) (series a : ℕ) (leaf : Leaf) : Type 0 where
  pub at : leaf.address ≡ a
  pub elder : ℕ
  pub is : IsLeafOf seen series elder leaf

-- the leaves of a series in so many blocks from an address on
abbrev pub AreFound : Seen → ℕ → ℕ → ℕ → List Leaf → Type 0
AreFound seen series zero a leaves = leaves ≡ []
AreFound seen series (suc count) a leaves =
    ((leaf : Leaf) × (rest : List Leaf) × IsFound seen series a leaf × (leaves ≡ leaf ∷ rest) × AreFound seen series count (a + 1) rest)
    ⊎ (((leaf : Leaf) → ¬ (IsFound seen series a leaf)) × AreFound seen series count (a + 1) leaves)

-- The scan: the leaves of a series in all live blocks, in order of address, where ordinals from one on have these fills.
abbrev pub IsScan : Seen → ℕ → ℕ → List ℕ → List Leaf → Type 0
IsScan seen series ordinal [] leaves = leaves ≡ []
IsScan seen series ordinal (fill ∷ fills) leaves = (front : List Leaf) × (rest : List Leaf) × (leaves ≡ front ++ rest)
    × AreFound seen series fill (address ordinal 0) front × IsScan seen series (suc ordinal) fills rest
