-- A whole image: volumes, a record, and what each block spells.
use Rattle.std.specs.Prelude.{◌≡◌, ℕ, zero, suc, ◌+◌, ◌-◌, ◌*◌, ◌/◌, ◌%◌, ◌<◌, ◌≤◌, ◌==◌, nat_le, nat_lt, ◌&&◌, Bool, true, if◌then◌else◌, List, [], ◌∷◌, ◌++◌, map, get_or, Option, Some, None}
use Rattle.ak_forest.specs.Numbers.{made, between, carry}
use Rattle.ak_forest.specs.Tree.{Seen, Node, IsTree, reads_of, width}
use Rattle.ak_summary.specs.declared.summary.Summary.{Summary}

-- the live ordinals: the least one and the fill of each
pub record Volumes : Type 0 where
  pub lo : ℕ
  pub fills : List ℕ

-- its ordinal is live and its index is below the fill
abbrev pub live : Volumes → ℕ → Bool
live v at = nat_le v.lo (at / width) && nat_lt (at % width) (get_or v.fills (at / width - v.lo) 0)

-- what is seen of blocks: nothing but at live addresses
abbrev pub seen_of : Volumes → Seen → Seen
seen_of v spells at = if live v at then spells at else None

-- the leaves of a series at these many addresses from one on, and in these ordinals from one on
abbrev pub leaf_here : ℕ → ℕ → Option Node → List ℕ
leaf_here series at None = []
leaf_here series at (Some node) = if (node.level == 0) && (node.series == series) then at ∷ [] else []

abbrev pub row : Seen → ℕ → ℕ → ℕ → List ℕ
row seen series at zero = []
row seen series at (suc count) = leaf_here series at (seen at) ++ row seen series (suc at) count

abbrev pub scan_from : Seen → ℕ → ℕ → List ℕ → List ℕ
scan_from seen series o [] = []
scan_from seen series o (fill ∷ fills) = row seen series (o * width) fill ++ scan_from seen series (suc o) fills

-- the scan: the live leaves of a series in order of address
abbrev pub scan_of : Volumes → Seen → ℕ → List ℕ
scan_of v seen series = scan_from seen series v.lo v.fills

-- the block at an address is that node
pub record Holds (seen : Seen) (at series level number : ℕ) : Type 0 where
  pub node : Node
  pub read : seen at ≡ Some node
  pub of_series : node.series ≡ series
  pub of_level : node.level ≡ level
  pub numbered : node.number ≡ number

-- The live blocks of an ordinal are whole groups: behind a leaf stand its inner nodes, and each inner node stands so behind a leaf.
pub record IsWhole (fan : ℕ) (seen : Seen) : Type 0 where
  pub behind : (at : ℕ) (node : Node) → seen at ≡ Some node → node.level ≡ 0 → (k : ℕ) → k ≤ carry fan node.number
      → (at % width + k < width) × Holds seen (at + k) node.series k (made fan k node.number)
  pub before : (at : ℕ) (node : Node) → seen at ≡ Some node → (node.level ≤ at % width)
      × ((number : ℕ) × Holds seen (at - node.level) node.series 0 number × (node.level ≤ carry fan number))

-- The live leaves of a series in order of address have consecutive numbers, the last being the leaf count less 1; with home they are its tree.
pub record IsSeries (fan : ℕ) (v : Volumes) (seen : Seen) (series leaves : ℕ) (total : ℕ → ℕ → Summary) (rescue : ℕ → ℕ) : Type 0 where
  pub low : ℕ
  pub home : ℕ → ℕ
  pub scanned : scan_of v seen series ≡ map home (between low leaves)
  pub tree : IsTree fan v.lo series low leaves home total rescue (reads_of seen)

-- a sound image, as the record and the live blocks are
pub record IsSound (fan count : ℕ) (leaves : ℕ → ℕ) (rescue : ℕ → ℕ → ℕ) (total : ℕ → ℕ → ℕ → Summary) (v : Volumes) (seen : Seen) : Type 0 where
  pub small : (i : ℕ) → get_or v.fills i 0 < width
  pub spelled : (at : ℕ) → live v at ≡ true → (node : Node) × (seen at ≡ Some node) × (node.series < count)
  pub whole : IsWhole fan seen
  pub each : (series : ℕ) → series < count → IsSeries fan v seen series (leaves series) (total series) (rescue series)
