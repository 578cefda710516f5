-- What the block at an address spells: a leaf or an inner node.
use Rattle.std.specs.Prelude.{ℕ, ◌≡◌, ◌⊎◌, List, [], map}
use Rattle.ak_bytes.specs.declared.head.Head.{Head}
use Rattle.ak_forest.specs.Tree.{Node, Reference}
use Rattle.ak_image.specs.Blocks.{Seen}
use Rattle.ak_image.specs.Scans.{IsLeafOf}
use Rattle.ak_inner.specs.Nodes.{SpellsInner}
use Rattle.ak_inner.specs.declared.reference.Ref.{Ref}
use Rattle.ak_summary.specs.Folds.{summary_of}
use Rattle.ak_volumes.specs.Ordinals.{Ordinals, IsLive}
use Rattle.ak_world.specs.Leaves.{Leaf}

-- a reference as the trees have it
abbrev pub reference_of : Ref → Reference
reference_of r = record { child = r.addr.0; first = r.first_leaf.0; summary = r.summary }

-- the block at an address spells this inner node, with its own address
pub record IsInnerOf (seen : Seen) (a : ℕ) (node : Node) : Type 0 where
  pub head : Head
  pub refs : List Ref
  pub spells : SpellsInner (seen a) head refs
  pub level_is : head.level ≡ node.level
  pub series_is : head.series ≡ node.series
  pub number_is : head.number ≡ node.number
  pub address_is : head.addr.0 ≡ a
  pub elder_is : head.elder.0 ≡ node.elder
  pub references_are : node.references ≡ map reference_of refs

-- the block at an address spells this leaf, whose value is the summary of its points
pub record IsLeafNode (seen : Seen) (a : ℕ) (node : Node) : Type 0 where
  pub level_is : node.level ≡ 0
  pub leaf : Leaf
  pub at : leaf.address ≡ a
  pub number_is : leaf.number ≡ node.number
  pub is : IsLeafOf seen node.series node.elder leaf
  pub value_is : node.value ≡ summary_of leaf.points
  pub none : node.references ≡ []

abbrev pub IsNodeAt : Seen → ℕ → Node → Type 0
IsNodeAt seen a node = IsLeafNode seen a node ⊎ IsInnerOf seen a node

-- a read of a live address gives this node
abbrev pub Reads : Ordinals → Seen → ℕ → Node → Type 0
Reads o seen a node = IsLive o a × IsNodeAt seen a node

-- the block at an address spells an inner node of this series, level and number
pub record IsInnerAt (seen : Seen) (series level number a : ℕ) : Type 0 where
  pub node : Node
  pub is : IsInnerOf seen a node
  pub series_is : node.series ≡ series
  pub level_is : node.level ≡ level
  pub number_is : node.number ≡ number
