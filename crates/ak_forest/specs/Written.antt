-- A series of an image in the words of the blocks: nothing is said by the number of the first live leaf.
use Rattle.std.specs.Prelude.{◌≡◌, ◌⊎◌, ℕ, zero, suc, ◌+◌, ◌-◌, ◌*◌, ◌^◌, ◌<◌, ◌≤◌, List, [], ◌∷◌, length, map, get_or, pred, ⊤, Some, None, true}
use Rattle.ak_forest.specs.Numbers.{made, end, between, carry}
use Rattle.ak_forest.specs.Tree.{Seen, Node, Reference, none, width}
use Rattle.ak_summary.specs.declared.summary.Summary.{Summary}
use Rattle.ak_forest.specs.Image.{Volumes, live, seen_of, scan_of, Holds, IsWhole, IsSeries}

-- the number that the block at an address gives
abbrev pub number_at : Seen → ℕ → ℕ
number_at seen at = elim (seen at) [ None ↦ 0 | Some node ↦ node.number ]

-- some live block is that node
abbrev pub IsLive : Seen → ℕ → ℕ → ℕ → Type 0
IsLive seen series k j = (at : ℕ) × Holds seen at series k j

-- a link to a node: its address where it is live, and dead where it isn't
abbrev pub Names : Seen → ℕ → ℕ → ℕ → ℕ → ℕ → Type 0
Names seen lo series k j at = Holds seen at series k j ⊎ ((at < lo * width) × (IsLive seen series k j → ⊥))

abbrev pub ElderNames : Seen → ℕ → ℕ → ℕ → ℕ → ℕ → Type 0
ElderNames seen lo series k zero at = at ≡ none
ElderNames seen lo series k (suc j) at = Names seen lo series k j at

-- The first leaf of a reference to node j of level k is live, each earlier leaf of the subtree is dead, and the summary is that from it to the end;
pub record Starts (fan : ℕ) (seen : Seen) (series : ℕ) (total : ℕ → ℕ → Summary) (k j : ℕ) (r : Reference) : Type 0 where
  pub number : ℕ
  pub within : (j * fan ^ k ≤ number) × (number < end fan k j)
  pub here : Holds seen r.first series 0 number
  pub earlier : (i : ℕ) → j * fan ^ k ≤ i → i < number → IsLive seen series 0 i → ⊥
  pub worth : r.summary ≡ total number (end fan k j)

-- or it is dead, and the leaf of the least number in the subtree isn't live
abbrev pub Tells : ℕ → Seen → ℕ → ℕ → (ℕ → ℕ → Summary) → ℕ → ℕ → Reference → Type 0
Tells fan seen lo series total k j r = Starts fan seen series total k j r ⊎ ((r.first < lo * width) × (IsLive seen series 0 (j * fan ^ k) → ⊥))

-- where the node is live, the summary ends with the last leaf of the subtree
abbrev pub Ends : ℕ → Seen → ℕ → (ℕ → ℕ → Summary) → ℕ → ℕ → Reference → Type 0
Ends fan seen series total k j r = IsLive seen series k j → r.summary.end ≡ (total (pred (end fan k j)) (end fan k j)).end

abbrev pub AllName : ℕ → Seen → ℕ → ℕ → (ℕ → ℕ → Summary) → ℕ → ℕ → List Reference → Type 0
AllName fan seen lo series total k j [] = ⊤
AllName fan seen lo series total k j (r ∷ rs) = (Names seen lo series k j r.child × Tells fan seen lo series total k j r × Ends fan seen series total k j r) × AllName fan seen lo series total k (suc j) rs

pub record LastChildren (fan : ℕ) (seen : Seen) (lo series : ℕ) (total : ℕ → ℕ → Summary) (k j : ℕ) (references : List Reference) : Type 0 where
  pub some : 0 < length references
  pub most : length references ≤ fan
  pub each : AllName fan seen lo series total k (suc j * fan - length references) references
  pub before : (c i : ℕ) → j * fan ≤ c → c < suc j * fan - length references → c * fan ^ k ≤ i → i < end fan k c → IsLive seen series 0 i → ⊥

abbrev pub Content : ℕ → Seen → ℕ → ℕ → (ℕ → ℕ → Summary) → ℕ → Node → Type 0
Content fan seen lo series total zero node = (node.references ≡ []) × (node.value ≡ total node.number (suc node.number))
Content fan seen lo series total (suc k) node = LastChildren fan seen lo series total k node.number node.references

pub record IsWrittenSeries (fan : ℕ) (v : Volumes) (seen : Seen) (series leaves : ℕ) (total : ℕ → ℕ → Summary) (rescue : ℕ → ℕ) : Type 0 where
  -- the live leaves in order of address have consecutive numbers, the last being the leaf count less 1
  pub low : ℕ
  pub fits : low ≤ leaves
  pub consecutive : map (number_at seen) (scan_of v seen series) ≡ between low leaves
  -- of each live block of the series
  pub elders : (at : ℕ) (node : Node) → seen at ≡ Some node → node.series ≡ series → ElderNames seen v.lo series node.level node.number node.elder
  pub contents : (at : ℕ) (node : Node) → seen at ≡ Some node → node.series ≡ series → Content fan seen v.lo series total node.level node
  -- of the record
  pub points : (k : ℕ) → ElderNames seen v.lo series k (made fan k leaves) (rescue k)

-- the two readings of a series are one
abbrev pub SameSaid : Type 0
SameSaid = (fan : ℕ) (v : Volumes) (seen : Seen) (series leaves : ℕ) (total : ℕ → ℕ → Summary) (rescue : ℕ → ℕ) → 1 < fan → leaves < fan ^ 11
    → ((at : ℕ) (node : Node) → seen at ≡ Some node → live v at ≡ true) → IsWhole fan seen
    → (IsWrittenSeries fan v seen series leaves total rescue → IsSeries fan v seen series leaves total rescue)
    × (IsSeries fan v seen series leaves total rescue → IsWrittenSeries fan v seen series leaves total rescue)

-- the blocks from an address on are a row of whole groups: a leaf of some series and number, then its inner nodes; at most so many groups
abbrev pub Groups : ℕ → Seen → ℕ → ℕ → ℕ → Type 0
Groups fan seen zero at count = count ≡ 0
Groups fan seen (suc most) at count = (count ≡ 0) ⊎ ((series : ℕ) × (m : ℕ) × (rest : ℕ) × (count ≡ suc (carry fan m) + rest)
    × ((k : ℕ) → k ≤ carry fan m → Holds seen (at + k) series k (made fan k m)) × Groups fan seen most (at + suc (carry fan m)) rest)

-- each live ordinal is such a row, and that says what IsWhole says of each block
abbrev pub Rows : ℕ → Volumes → Seen → Type 0
Rows fan v seen = (i : ℕ) → Groups fan seen (get_or v.fills i 0) ((v.lo + i) * width) (get_or v.fills i 0)

abbrev pub RowsAreWhole : Type 0
RowsAreWhole = (fan : ℕ) (v : Volumes) (spells : Seen) → 0 < fan → ((i : ℕ) → get_or v.fills i 0 < width) → Rows fan v (seen_of v spells) → IsWhole fan (seen_of v spells)

abbrev pub WholeAreRows : Type 0
WholeAreRows = (fan : ℕ) (v : Volumes) (spells : Seen) → 0 < fan → ((i : ℕ) → get_or v.fills i 0 < width)
    → ((at : ℕ) → live v at ≡ true → (node : Node) × (seen_of v spells at ≡ Some node)) → IsWhole fan (seen_of v spells) → Rows fan v (seen_of v spells)
