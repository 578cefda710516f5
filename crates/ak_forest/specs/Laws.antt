-- The laws, as they are stated of every sound image.
use Rattle.std.specs.Prelude.{◌≡◌, ◌≢◌, ℕ, suc, ◌+◌, ◌*◌, ◌/◌, ◌^◌, ◌<◌, ◌≤◌, true, max, List, [], ◌∷◌, ◌++◌, length, map, Some}
use Rattle.ak_forest.specs.Numbers.{made, digit, end, between, carry, waiting}
use Rattle.ak_forest.specs.Tree.{Seen, Node, Reference, IsGrown, IsClose, reads_of, spot, pending, gathered, width}
use Rattle.ak_summary.specs.declared.summary.Summary.{Summary}
use Rattle.ak_forest.specs.Image.{Volumes, live, seen_of, scan_of, IsSound}

-- what isn't live doesn't count
abbrev pub Agree : Type 0
Agree = (fan count : ℕ) (leaves : ℕ → ℕ) (rescue : ℕ → ℕ → ℕ) (total : ℕ → ℕ → ℕ → Summary) (v : Volumes) (one two : Seen)
    → ((at : ℕ) → live v at ≡ true → one at ≡ two at)
    → IsSound fan count leaves rescue total v (seen_of v one)
    → IsSound fan count leaves rescue total v (seen_of v two) × ((series : ℕ) → scan_of v (seen_of v one) series ≡ scan_of v (seen_of v two) series)

-- The live leaves under what an opening finds pending, from the highest level down, are the scan.
abbrev pub Rescued : Type 0
Rescued = (fan count : ℕ) (leaves : ℕ → ℕ) (rescue : ℕ → ℕ → ℕ) (total : ℕ → ℕ → ℕ → Summary) (v : Volumes) (spells : Seen) → 1 < fan
    → IsSound fan count leaves rescue total v (seen_of v spells) → (series : ℕ) → series < count → leaves series < fan ^ 11
    → gathered fan (seen_of v spells) (leaves series) (rescue series) 11 ≡ scan_of v (seen_of v spells) series

-- What it finds at a level are its live nodes from number fan * floor (c / fan) on, in order.
abbrev pub Found : Type 0
Found = (fan count : ℕ) (leaves : ℕ → ℕ) (rescue : ℕ → ℕ → ℕ) (total : ℕ → ℕ → ℕ → Summary) (v : Volumes) (spells : Seen) → 1 < fan
    → (sound : IsSound fan count leaves rescue total v (seen_of v spells)) → (series : ℕ) (known : series < count) (k : ℕ)
    → pending fan (seen_of v spells) (leaves series) (rescue series) k
    ≡ map (spot fan (sound.each series known).home k) (between (max (made fan k (sound.each series known).low) (made fan k (leaves series) / fan * fan)) (made fan k (leaves series)))

-- A dead node has no live leaf: its last leaf is below the first live one.
abbrev pub DeadBelow : Type 0
DeadBelow = (fan count : ℕ) (leaves : ℕ → ℕ) (rescue : ℕ → ℕ → ℕ) (total : ℕ → ℕ → ℕ → Summary) (v : Volumes) (spells : Seen) → 1 < fan
    → (sound : IsSound fan count leaves rescue total v (seen_of v spells)) → (series : ℕ) (known : series < count) (k j : ℕ) → end fan k j ≤ leaves series
    → spot fan (sound.each series known).home k j < v.lo * width → end fan k j ≤ (sound.each series known).low

-- giving up the least ordinal keeps an image sound
abbrev pub Switched : Type 0
Switched = (fan count : ℕ) (leaves : ℕ → ℕ) (rescue : ℕ → ℕ → ℕ) (total : ℕ → ℕ → ℕ → Summary) (lo fill : ℕ) (fills : List ℕ) (spells : Seen) → 1 < fan → ((series : ℕ) → series < count → leaves series < fan ^ 11)
    → IsSound fan count leaves rescue total record { lo = lo; fills = fill ∷ fills } (seen_of record { lo = lo; fills = fill ∷ fills } spells)
    → IsSound fan count leaves rescue total record { lo = suc lo; fills = fills ++ 0 ∷ [] } (seen_of record { lo = suc lo; fills = fills ++ 0 ∷ [] } spells)

-- A group at the end of the last ordinal: the blocks before it stay, and its own are the nodes.
pub record IsWritten (lo n c : ℕ) (front : List ℕ) (spells spells' : Seen) (nodes : ℕ → Node) : Type 0 where
  pub room : n + suc c < width
  pub agrees : (at : ℕ) → live record { lo = lo; fills = front ++ n ∷ [] } at ≡ true → spells' at ≡ spells at
  pub wrote : (k : ℕ) → k ≤ c → spells' ((lo + length front) * width + n + k) ≡ Some (nodes k)

-- the counts and points of all series where those of one have changed
pub record OnlyOf (series : ℕ) (leaves leaves' : ℕ → ℕ) (rescue rescue' : ℕ → ℕ → ℕ) (total total' : ℕ → ℕ → ℕ → Summary) : Type 0 where
  pub one_more : leaves' series ≡ suc (leaves series)
  pub same_leaves : (other : ℕ) → series ≢ other → leaves other ≡ leaves' other
  pub same_points : (other : ℕ) → series ≢ other → rescue other ≡ rescue' other
  pub same_total : (other : ℕ) → series ≢ other → total other ≡ total' other

-- closing a leaf keeps an image sound, also where older children are gone
abbrev pub Placed : Type 0
Placed = (fan count series : ℕ) (value : Summary) (base : ℕ) (join : Summary → Summary → Summary) (leaves leaves' : ℕ → ℕ) (rescue rescue' : ℕ → ℕ → ℕ) (total total' : ℕ → ℕ → ℕ → Summary) (lo n : ℕ) (front : List ℕ) (spells spells' : Seen)
    (waiting waiting' : ℕ → List Reference) (fresh : ℕ → Reference) (nodes : ℕ → Node) (home' : ℕ → ℕ)
    → 1 < fan → suc (leaves series) < fan ^ 11 → (known : series < count)
    → IsWritten lo n (carry fan (leaves series)) front spells spells' nodes
    → OnlyOf series leaves leaves' rescue rescue' total total'
    → (sound : IsSound fan count leaves rescue total record { lo = lo; fills = front ++ n ∷ [] } (seen_of record { lo = lo; fills = front ++ n ∷ [] } spells))
    → IsGrown fan lo series (sound.each series known).low (leaves series) (sound.each series known).home (total series) (rescue series) (reads_of (seen_of record { lo = lo; fills = front ++ n ∷ [] } spells)) base waiting
    → IsClose fan series (leaves series) ((lo + length front) * width + n) value (sound.each series known).low join (sound.each series known).home home' (rescue series) (rescue' series) (total series) (total' series)
    (reads_of (seen_of record { lo = lo; fills = front ++ n ∷ [] } spells)) (reads_of (seen_of record { lo = lo; fills = front ++ (n + suc (carry fan (leaves series))) ∷ [] } spells')) waiting waiting' fresh nodes
    → IsSound fan count leaves' rescue' total' record { lo = lo; fills = front ++ (n + suc (carry fan (leaves series))) ∷ [] } (seen_of record { lo = lo; fills = front ++ (n + suc (carry fan (leaves series))) ∷ [] } spells')

-- Carry: closing leaf m empties each level below carry m, pushes one at that level and leaves those above; with nothing dead a level has its digit.
abbrev pub Carried : Type 0
Carried = (fan base m k : ℕ) → 1 < fan → base ≤ m → suc m < fan ^ 11
    → (k < carry fan m → waiting fan base (suc m) k ≡ [])
    × (k ≡ carry fan m → waiting fan base (suc m) k ≡ waiting fan base m k ++ made fan k m ∷ [])
    × (carry fan m < k → waiting fan base (suc m) k ≡ waiting fan base m k)
    × (length (waiting fan 0 m k) ≡ digit fan k m)

-- Reads: an opening reads at most fan - 1 nodes at a level, whatever the blocks say.
abbrev pub FewReads : Type 0
FewReads = (fan : ℕ) (seen : Seen) (leaves : ℕ) (rescue : ℕ → ℕ) (k : ℕ) → 1 < fan → (length (pending fan seen leaves rescue k) ≤ digit fan k leaves) × (digit fan k leaves < fan)

-- An older record with the same least ordinal and a fill of the last one that isn't more: a group behind keeps its image sound.
abbrev pub OlderKept : Type 0
OlderKept = (fan count : ℕ) (leaves : ℕ → ℕ) (rescue : ℕ → ℕ → ℕ) (total : ℕ → ℕ → ℕ → Summary) (lo older n c : ℕ) (front : List ℕ) (spells spells' : Seen) (nodes : ℕ → Node) → older ≤ n
    → IsWritten lo n c front spells spells' nodes
    → IsSound fan count leaves rescue total record { lo = lo; fills = front ++ older ∷ [] } (seen_of record { lo = lo; fills = front ++ older ∷ [] } spells)
    → IsSound fan count leaves rescue total record { lo = lo; fills = front ++ older ∷ [] } (seen_of record { lo = lo; fills = front ++ older ∷ [] } spells')
