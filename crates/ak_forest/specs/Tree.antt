-- What the live blocks of one series are.
use Rattle.std.specs.Prelude.{◌≡◌, ◌⊎◌, ℕ, zero, suc, ◌+◌, ◌-◌, ◌*◌, ◌^◌, ◌<◌, ◌≤◌, List, [], ◌∷◌, ◌++◌, length, Option, Some, None, pred, flat_map, max, ⊤}
use Rattle.ak_forest.specs.Numbers.{end, made, digit, carry}
use Rattle.ak_summary.specs.Folds.{no_summary}
use Rattle.ak_summary.specs.declared.summary.Summary.{Summary}

-- An address is ordinal * width + index.
abbrev pub width : ℕ
width = 2 ^ 32

-- the address that means none: no ordinal is so full
abbrev pub none : ℕ
none = 2 ^ 64 - 1

pub record Reference : Type 0 where
  pub child : ℕ
  pub first : ℕ
  pub summary : Summary

pub record Node : Type 0 where
  pub series : ℕ
  pub level : ℕ
  pub number : ℕ
  pub elder : ℕ
  pub references : List Reference
  -- of a leaf: the summary of its points
  pub value : Summary

-- what a read of an address gives: a node where the address is live and its block spells one with this address
abbrev pub Seen : Type 0
Seen = ℕ → Option Node

-- the node that a read of an address gives
abbrev pub reads_of : Seen → ℕ → Node → Type 0
reads_of seen at node = seen at ≡ Some node

-- from an address back along elder links, that many at most, to one that isn't live; the oldest first
abbrev pub follow : Seen → ℕ → ℕ → List ℕ
follow seen zero at = []
follow seen (suc count) at = elim (seen at) [ None ↦ [] | Some node ↦ follow seen count node.elder ++ at ∷ [] ]

-- the live leaves under an address of level k
abbrev pub under : Seen → ℕ → ℕ → List ℕ
under seen zero at = elim (seen at) [ None ↦ [] | Some node ↦ at ∷ [] ]
under seen (suc k) at = elim (seen at) [ None ↦ [] | Some node ↦ flat_map (λ r. under seen k r.child) node.references ]

-- the live leaves under what is pending, from level count - 1 down: at level k back from the address rescue k
abbrev pub pending : ℕ → Seen → ℕ → (ℕ → ℕ) → ℕ → List ℕ
pending fan seen leaves rescue k = follow seen (digit fan k leaves) (rescue k)

abbrev pub gathered : ℕ → Seen → ℕ → (ℕ → ℕ) → ℕ → List ℕ
gathered fan seen leaves rescue zero = []
gathered fan seen leaves rescue (suc k) = flat_map (under seen k) (pending fan seen leaves rescue k) ++ gathered fan seen leaves rescue k

-- where node j of level k stands: behind its last leaf
abbrev pub spot : ℕ → (ℕ → ℕ) → ℕ → ℕ → ℕ
spot fan home k j = home (pred (end fan k j)) + k

-- A link to node j of level k is its address where its last leaf is live, and is dead where it isn't.
pub record Link (fan lo low : ℕ) (home : ℕ → ℕ) (k j at : ℕ) : Type 0 where
  pub live : low < end fan k j → at ≡ spot fan home k j
  pub dead : end fan k j ≤ low → at < lo * width

-- the elder link of node j of level k; with the number of nodes made so far for j, the rescue point of the level
abbrev pub Elder : ℕ → ℕ → ℕ → (ℕ → ℕ) → ℕ → ℕ → ℕ → Type 0
Elder fan lo low home k zero at = at ≡ none
Elder fan lo low home k (suc j) at = Link fan lo low home k j at

-- The first leaf of a reference and its summary. Where the first leaf is live, it is the first live leaf of the subtree, and the summary is that of
-- the points from it to the subtree's end. Where it is dead, so is the leaf of the least number in the subtree.
pub record Covers (fan low : ℕ) (home : ℕ → ℕ) (total : ℕ → ℕ → Summary) (k j first : ℕ) (summary : Summary) : Type 0 where
  pub some : low < end fan k j
  pub begins : first ≡ home (max low (j * fan ^ k))
  pub worth : summary ≡ total (max low (j * fan ^ k)) (end fan k j)

pub record Cut (fan lo low : ℕ) (k j first : ℕ) : Type 0 where
  pub begun : j * fan ^ k < low
  pub dead : first < lo * width

-- a reference to node j of level k
pub record Child (fan lo low : ℕ) (home : ℕ → ℕ) (total : ℕ → ℕ → Summary) (k j : ℕ) (r : Reference) : Type 0 where
  pub link : Link fan lo low home k j r.child
  -- where the node is live, the summary ends with its last leaf
  pub ends : low < end fan k j → r.summary.end ≡ (total (pred (end fan k j)) (end fan k j)).end
  pub tally : Covers fan low home total k j r.first r.summary ⊎ Cut fan lo low k j r.first

-- references to the nodes of level k from number j on
abbrev pub Children : ℕ → ℕ → ℕ → (ℕ → ℕ) → (ℕ → ℕ → Summary) → ℕ → ℕ → List Reference → Type 0
Children fan lo low home total k j [] = ⊤
Children fan lo low home total k j (r ∷ rs) = Child fan lo low home total k j r × Children fan lo low home total k (suc j) rs

-- The references of node j of level k + 1 are those of its last children. Each child before them has no live leaf.
pub record Family (fan lo low : ℕ) (home : ℕ → ℕ) (total : ℕ → ℕ → Summary) (k j : ℕ) (references : List Reference) : Type 0 where
  pub some : 0 < length references
  pub most : length references ≤ fan
  pub each : Children fan lo low home total k (suc j * fan - length references) references
  pub missing : length references < fan → (suc j * fan - length references) * fan ^ k ≤ low

abbrev pub Body : ℕ → ℕ → ℕ → (ℕ → ℕ) → (ℕ → ℕ → Summary) → ℕ → ℕ → List Reference → Type 0
Body fan lo low home total zero j references = references ≡ []
Body fan lo low home total (suc k) j references = Family fan lo low home total k j references

-- what stands in the block of a live node
pub record Stands (fan lo series low : ℕ) (home : ℕ → ℕ) (total : ℕ → ℕ → Summary) (reads : ℕ → Node → Type 0) (k j : ℕ) : Type 0 where
  pub node : Node
  pub read : reads (spot fan home k j) node
  pub of_series : node.series ≡ series
  pub of_level : node.level ≡ k
  pub numbered : node.number ≡ j
  pub worth : k ≡ 0 → node.value ≡ total j (suc j)
  pub elder : Elder fan lo low home k j node.elder
  pub body : Body fan lo low home total k j node.references

-- The tree of a series: of its leaves, those from number low on are live, and home says where each stands.
pub record IsTree (fan lo series low leaves : ℕ) (home : ℕ → ℕ) (total : ℕ → ℕ → Summary) (rescue : ℕ → ℕ) (reads : ℕ → Node → Type 0) : Type 0 where
  pub fits : low ≤ leaves
  pub nodes : (k j : ℕ) → low < end fan k j → end fan k j ≤ leaves → Stands fan lo series low home total reads k j
  pub rescues : (k : ℕ) → Elder fan lo low home k (made fan k leaves) (rescue k)

-- nothing is seen at a dead address
pub record IsBlind (lo : ℕ) (seen : Seen) : Type 0 where
  pub dead : (at : ℕ) → at < lo * width → seen at ≡ None
  pub at_none : seen none ≡ None

-- what waits at level k in memory: links to the pending nodes, where the leaves below base were dead at the opening
pub record Waits (fan lo low : ℕ) (home : ℕ → ℕ) (total : ℕ → ℕ → Summary) (base leaves k : ℕ) (references : List Reference) : Type 0 where
  pub each : Children fan lo low home total k (max (made fan k base) (made fan (suc k) leaves * fan)) references
  pub all : max (made fan k base) (made fan (suc k) leaves * fan) + length references ≡ made fan k leaves

-- the invariant of one series
pub record IsGrown (fan lo series low leaves : ℕ) (home : ℕ → ℕ) (total : ℕ → ℕ → Summary) (rescue : ℕ → ℕ) (reads : ℕ → Node → Type 0) (base : ℕ) (waiting : ℕ → List Reference) : Type 0 where
  pub tree : IsTree fan lo series low leaves home total rescue reads
  pub older : base ≤ low
  pub waits : (k : ℕ) → Waits fan lo low home total base leaves k (waiting k)

-- the reference that a node with these references is given: their first leaf, and their summaries joined
abbrev pub first_of : List Reference → ℕ
first_of [] = none
first_of (r ∷ rs) = r.first

abbrev pub joined : (Summary → Summary → Summary) → List Reference → Summary
joined join [] = no_summary
joined join (r ∷ []) = r.summary
joined join (r ∷ s ∷ rs) = join r.summary (joined join (s ∷ rs))

-- the reference of a node that is read at an address
abbrev pub found_in : (Summary → Summary → Summary) → ℕ → ℕ → Node → Reference
found_in join zero at node = record { child = at; first = at; summary = node.value }
found_in join (suc k) at node = record { child = at; first = first_of node.references; summary = joined join node.references }

abbrev pub found : (Summary → Summary → Summary) → Seen → ℕ → ℕ → Reference
found join seen k at = elim (seen at) [ None ↦ record { child = at; first = none; summary = no_summary } | Some node ↦ found_in join k at node ]

-- What node k of the group of leaf m holds, and the reference to it: it takes what waited below and the new reference there.
abbrev pub Takes : (Summary → Summary → Summary) → ℕ → Summary → ℕ → (ℕ → List Reference) → (ℕ → Reference) → List Reference → Type 0
Takes join at value zero waiting fresh references = (references ≡ []) × ((fresh 0).first ≡ at) × ((fresh 0).summary ≡ value)
Takes join at value (suc k) waiting fresh references =
    (references ≡ waiting k ++ fresh k ∷ []) × ((fresh (suc k)).first ≡ first_of references) × ((fresh (suc k)).summary ≡ joined join references)

-- It names the last node of its level as its elder.
pub record IsPart (join : Summary → Summary → Summary) (series number k at : ℕ) (value : Summary) (rescue : ℕ → ℕ) (waiting : ℕ → List Reference) (fresh : ℕ → Reference) (node : Node) : Type 0 where
  pub of_series : node.series ≡ series
  pub of_level : node.level ≡ k
  pub numbered : node.number ≡ number
  pub worth : k ≡ 0 → node.value ≡ value
  pub elder : node.elder ≡ rescue k
  pub takes : Takes join at value k waiting fresh node.references
  pub pushed : (fresh k).child ≡ at + k

-- The step: leaf m is closed as a group at an address; what is seen stays, and the rescue points and what waits are brought up to date.
pub record IsClose (fan series m at : ℕ) (value : Summary) (low : ℕ) (join : Summary → Summary → Summary) (home home' rescue rescue' : ℕ → ℕ) (total total' : ℕ → ℕ → Summary) (reads reads' : ℕ → Node → Type 0)
    (waiting waiting' : ℕ → List Reference) (fresh : ℕ → Reference) (nodes : ℕ → Node) : Type 0 where
  pub here : home' m ≡ at
  pub same : (i : ℕ) → i < m → home' i ≡ home i
  pub worth : total' m (suc m) ≡ value
  pub same_total : (i j : ℕ) → j ≤ m → total' i j ≡ total i j
  pub adds : (i j k : ℕ) → low ≤ i → i < j → j < k → k ≤ suc m → join (total' i j) (total' j k) ≡ total' i k
  pub ends : (a b : Summary) → (join a b).end ≡ b.end
  pub keeps : (a : ℕ) (node : Node) → reads a node → reads' a node
  pub written : (k : ℕ) → k ≤ carry fan m → reads' (at + k) (nodes k)
  pub parts : (k : ℕ) → k ≤ carry fan m → IsPart join series (made fan k m) k at value rescue waiting fresh (nodes k)
  pub new_points : (k : ℕ) → k ≤ carry fan m → rescue' k ≡ at + k
  pub old_points : (k : ℕ) → carry fan m < k → rescue' k ≡ rescue k
  pub emptied : (k : ℕ) → k < carry fan m → waiting' k ≡ []
  pub grown : waiting' (carry fan m) ≡ waiting (carry fan m) ++ fresh (carry fan m) ∷ []
  pub old_levels : (k : ℕ) → carry fan m < k → waiting' k ≡ waiting k

-- What a close makes of what waits, whatever stands on the disk: node k of the group takes these references.
pub record IsLift (fan m at : ℕ) (value : Summary) (low : ℕ) (join : Summary → Summary → Summary) (home home' : ℕ → ℕ) (total total' : ℕ → ℕ → Summary)
    (waiting waiting' : ℕ → List Reference) (fresh : ℕ → Reference) (taken : ℕ → List Reference) : Type 0 where
  pub here : home' m ≡ at
  pub same : (i : ℕ) → i < m → home' i ≡ home i
  pub worth : total' m (suc m) ≡ value
  pub same_total : (i j : ℕ) → j ≤ m → total' i j ≡ total i j
  pub ends : (a b : Summary) → (join a b).end ≡ b.end
  pub adds : (i j k : ℕ) → low ≤ i → i < j → j < k → k ≤ suc m → join (total' i j) (total' j k) ≡ total' i k
  pub takes : (k : ℕ) → k ≤ carry fan m → Takes join at value k waiting fresh (taken k)
  pub pushed : (k : ℕ) → k ≤ carry fan m → (fresh k).child ≡ at + k
  pub emptied : (k : ℕ) → k < carry fan m → waiting' k ≡ []
  pub grown : waiting' (carry fan m) ≡ waiting (carry fan m) ++ fresh (carry fan m) ∷ []
  pub old_levels : (k : ℕ) → carry fan m < k → waiting' k ≡ waiting k
