-- Which nodes a record names, and which of them are damaged.
use Rattle.std.specs.Prelude.{ℕ, suc, ◌≡◌, ◌+◌, ◌-◌, ◌*◌, ◌/◌, ◌^◌, ◌≤◌, List, ◌∷◌, ◌++◌, length}
use Rattle.ak_forest.specs.Tree.{Node, Reference}
use Rattle.ak_host.specs.Files.{Files}
use Rattle.ak_image.specs.Blocks.{Seen, seen_in}
use Rattle.ak_image.specs.Laid.{series_in}
use Rattle.ak_image.specs.Nodes.{IsNodeAt}
use Rattle.ak_meta.specs.Contents.{Content, rescue_at}
use Rattle.ak_meta.specs.Leaves.{leaves_at}
use Rattle.ak_volumes.specs.Ordinals.{Ordinals, AreOrdinals, HasGrown, IsLive, ordinal_of, index_of, file_of}

-- the block at an address spells the node of a series with this level and number
pub record IsNodeOf (seen : Seen) (series level number at : ℕ) (node : Node) : Type 0 where
  pub is : IsNodeAt seen at node
  pub series_is : node.series ≡ series
  pub level_is : node.level ≡ level
  pub number_is : node.number ≡ number

-- the block at an address spells no such node
abbrev pub IsNoNode : Seen → ℕ → ℕ → ℕ → ℕ → Type 0
IsNoNode seen series level number at = (node : Node) → IsNodeAt seen at node → node.series ≡ series → node.level ≡ level → node.number ≡ number → ⊥

-- A record names the node of a series with this level and number at an address. It does so for the last node of each level, by the
-- rescue address. And where a node that is named is live and spelled at its address, its elder is named, and so is each of its
-- children: the last one is that behind which no more belongs to the node.
pub data IsNamed (seen : Seen) (o : Ordinals) (c : Content) : ℕ → ℕ → ℕ → ℕ → Type 0 where
  rescue : (series level : ℕ) → level ≤ 10 → 32 ^ level ≤ leaves_at c.series series
      → IsNamed seen o c series level (leaves_at c.series series / 32 ^ level - 1) (rescue_at (series_in c.series series).rescue level)
  elder : (series level number at : ℕ) (node : Node) → IsNamed seen o c series level (suc number) at → IsLive o at
      → IsNodeOf seen series level (suc number) at node → IsNamed seen o c series level number node.elder
  child : (series level number at : ℕ) (node : Node) (front : List Reference) (r : Reference) (behind : List Reference)
      → IsNamed seen o c series (suc level) number at → IsLive o at → IsNodeOf seen series (suc level) number at node
      → node.references ≡ front ++ r ∷ behind → IsNamed seen o c series level (32 * number + (31 - length behind)) r.child

-- A node that the record names at a live address should stand in this block of a file, which doesn't spell it.
pub record IsDamagedNode (seen : Seen) (o : Ordinals) (c : Content) (file block : ℕ) : Type 0 where
  pub series : ℕ
  pub level : ℕ
  pub number : ℕ
  pub at : ℕ
  pub named : IsNamed seen o c series level number at
  pub live : IsLive o at
  pub file_is : file ≡ file_of o (ordinal_of at)
  pub block_is : block ≡ index_of at
  pub none : IsNoNode seen series level number at

-- The same of a record that was found, as a disk reads now: by ordinals that the record's can have grown to.
pub record IsDamagedBy (c : Content) (file block : ℕ) (files : Files) : Type 0 where
  pub now : Ordinals
  pub rules_are : AreOrdinals now
  pub grown : HasGrown c.ordinals now
  pub damaged : IsDamagedNode (seen_in c.ordinals.volumes files) now c file block
