-- Nodes of one level of a series, from one back along elder links.
use Rattle.std.specs.Prelude.{ℕ, zero, suc, ◌≡◌, ◌⊎◌, ◌-◌, ◌/◌, ◌%◌, ◌^◌, ◌≤◌, List, [], ◌∷◌, ◌++◌}
use Rattle.ak_forest.specs.Tree.{Node, found_in}
use Rattle.ak_image.specs.Blocks.{Seen}
use Rattle.ak_image.specs.Named.{IsNoNode}
use Rattle.ak_image.specs.Nodes.{IsNodeAt, reference_of}
use Rattle.ak_inner.specs.declared.reference.Ref.{Ref}
use Rattle.ak_levels.specs.Pending.{Lists, pending_at}
use Rattle.ak_meta.specs.Contents.{rescue_at}
use Rattle.ak_meta.specs.declared.meta.SeriesMeta.{SeriesMeta}
use Rattle.ak_summary.specs.Summaries.{joined}
use Rattle.ak_volumes.specs.Ordinals.{Ordinals, IsLive, ordinal_of, index_of, file_of}

-- The block at an address spells the node of a series with this level and number, which names this address as its elder. The
-- reference to it is that of the node: its address, the first leaf of its first reference, and the join of their summaries.
pub record IsReferred (seen : Seen) (series level number at elder : ℕ) (r : Ref) : Type 0 where
  pub node : Node
  pub is : IsNodeAt seen at node
  pub series_is : node.series ≡ series
  pub level_is : node.level ≡ level
  pub number_is : node.number ≡ number
  pub elder_is : node.elder ≡ elder
  pub reference_is : reference_of r ≡ found_in joined level at node

-- The references to so many nodes of a level back along elder links, the oldest first, where the last of them is the one before
-- this number and a link names this address for it. They end before an address that isn't live.
abbrev pub AreFollowed : Seen → Ordinals → ℕ → ℕ → ℕ → ℕ → ℕ → List Ref → Type 0
AreFollowed seen o series level zero number at refs = refs ≡ []
AreFollowed seen o series level (suc left) number at refs = ((¬ IsLive o at) × (refs ≡ []))
    ⊎ (IsLive o at × ((front : List Ref) × (last : Ref) × (elder : ℕ) × (refs ≡ front ++ last ∷ [])
    × IsReferred seen series level (number - 1) at elder last × AreFollowed seen o series level left (number - 1) elder front))

-- One of them stands in this block of a file, which is live and spells no such node.
abbrev pub IsLost : Seen → Ordinals → ℕ → ℕ → ℕ → ℕ → ℕ → ℕ → ℕ → Type 0
IsLost seen o series level zero number at file block = ⊥
IsLost seen o series level (suc left) number at file block = IsLive o at
    × (((file ≡ file_of o (ordinal_of at)) × (block ≡ index_of at) × IsNoNode seen series level (number - 1) at)
    ⊎ ((last : Ref) × (elder : ℕ) × IsReferred seen series level (number - 1) at elder last × IsLost seen o series level left (number - 1) elder file block))

-- how many nodes of a level a series of so many leaves has, and how many of them no node refers to
abbrev pub made_of : ℕ → ℕ → ℕ
made_of leaves level = leaves / 32 ^ level

abbrev pub pending_of : ℕ → ℕ → ℕ
pending_of leaves level = made_of leaves level % 32

-- What waits of a series, of which the record says this, are on each level the references that its rescue address leads to.
abbrev pub IsRebuilt : Seen → Ordinals → ℕ → SeriesMeta → Lists → Type 0
IsRebuilt seen o series known v = (level : ℕ) → level ≤ 10
    → AreFollowed seen o series level (pending_of known.leaves level) (made_of known.leaves level) (rescue_at known.rescue level) (pending_at v level)

-- of each series, from a number on
abbrev pub AreRebuilt : Seen → Ordinals → ℕ → List SeriesMeta → List Lists → Type 0
AreRebuilt seen o n [] levels = levels ≡ []
AreRebuilt seen o n (known ∷ others) [] = ⊥
AreRebuilt seen o n (known ∷ others) (v ∷ levels) = IsRebuilt seen o n known v × AreRebuilt seen o (suc n) others levels

-- on some level of a series a rescue address leads to this block, which is no such node
abbrev pub IsLostOf : Seen → Ordinals → ℕ → SeriesMeta → ℕ → ℕ → Type 0
IsLostOf seen o series known file block = (level : ℕ) × (level ≤ 10)
    × IsLost seen o series level (pending_of known.leaves level) (made_of known.leaves level) (rescue_at known.rescue level) file block
