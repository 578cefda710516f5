-- One series written leaf by leaf, to be computed.
use Rattle.std.specs.Prelude.{ℕ, zero, suc, ◌+◌, ◌-◌, ◌*◌, ◌==◌, nat_le, nat_lt, if◌then◌else◌, List, [], ◌∷◌, ◌++◌, length, get_or, drop, Option, Some, None}
use Rattle.ak_forest.specs.Numbers.{made, carry}
use Rattle.ak_summary.specs.Folds.{no_summary}
use Rattle.ak_summary.specs.declared.summary.Summary.{Summary}
use Rattle.ak_forest.specs.Tree.{Seen, Node, Reference, width, none, found_in, pending}
use Rattle.ak_forest.specs.Image.{Volumes, seen_of}

pub record Store : Type 0 where
  pub volumes : Volumes
  -- the blocks written, the newest first
  pub disk : List (ℕ × Node)
  pub leaves : ℕ
  -- by level: the rescue points, and what waits in memory
  pub points : List ℕ
  pub waiting : List (List Reference)

abbrev pub at_in : List (ℕ × Node) → ℕ → Option Node
at_in [] at = None
at_in (b ∷ bs) at = if b.0 == at then Some b.1 else at_in bs at

abbrev pub seen_in : Store → Seen
seen_in s = seen_of s.volumes (at_in s.disk)

abbrev pub point : List ℕ → ℕ → ℕ
point points k = get_or points k none

-- summaries that count alone
abbrev pub one : Summary
one = record no_summary { count = 1 }

abbrev pub added : Summary → Summary → Summary
added a b = record no_summary { count = a.count + b.count; end = b.end }

abbrev pub Levels : Type 0
Levels = List (ℕ × Node) × List ℕ × List (List Reference)

-- the nodes of a group from level k on, with what they take; the points and the waiting references from that level on are brought up to date
abbrev pub group : ℕ → ℕ → ℕ → ℕ → ℕ → List Reference → List ℕ → List (List Reference) → List (ℕ × Node) → Levels
group fan zero k m at takes [] waiting disk = (disk, [], waiting)
group fan zero k m at takes (p ∷ points) [] disk = (disk, p ∷ points, [])
group fan zero k m at takes (p ∷ points) (w ∷ waiting) disk =
    let node : Node = record { series = 0; level = k; number = made fan k m; elder = p; references = takes; value = one } in
    ((at + k, node) ∷ disk, (at + k) ∷ points, (w ++ found_in added k (at + k) node ∷ []) ∷ waiting)
group fan (suc c) k m at takes [] waiting disk = (disk, [], waiting)
group fan (suc c) k m at takes (p ∷ points) [] disk = (disk, p ∷ points, [])
group fan (suc c) k m at takes (p ∷ points) (w ∷ waiting) disk =
    let node : Node = record { series = 0; level = k; number = made fan k m; elder = p; references = takes; value = one } in
    let rest = group fan c (suc k) m at (w ++ found_in added k (at + k) node ∷ []) points waiting ((at + k, node) ∷ disk) in
    (rest.0, (at + k) ∷ rest.1, [] ∷ rest.2)

-- the last fill, and the fills with that many more blocks in the last
abbrev pub last_fill : List ℕ → ℕ
last_fill [] = 0
last_fill (f ∷ []) = f
last_fill (f ∷ g ∷ fills) = last_fill (g ∷ fills)

abbrev pub fill_more : ℕ → List ℕ → List ℕ
fill_more b [] = []
fill_more b (f ∷ []) = (f + b) ∷ []
fill_more b (f ∷ g ∷ fills) = f ∷ fill_more b (g ∷ fills)

abbrev pub room_for : ℕ → ℕ → ℕ → Volumes → Volumes
room_for most blocks b v =
    if nat_le (last_fill v.fills + b) blocks then v
    else if nat_lt (length v.fills) most then record { lo = v.lo; fills = v.fills ++ 0 ∷ [] }
    else record { lo = suc v.lo; fills = drop 1 v.fills ++ 0 ∷ [] }

-- one leaf is closed; volumes and blocks are the limits
abbrev pub close : ℕ → ℕ → ℕ → Store → Store
close fan most blocks s =
    let b = suc (carry fan s.leaves) in
    let v = room_for most blocks b s.volumes in
    let at = (v.lo + length v.fills - 1) * width + last_fill v.fills in
    let g = group fan (carry fan s.leaves) 0 s.leaves at [] s.points s.waiting s.disk in
    record { volumes = record { lo = v.lo; fills = fill_more b v.fills }; disk = g.0; leaves = suc s.leaves; points = g.1; waiting = g.2 }

abbrev pub closes : ℕ → ℕ → ℕ → ℕ → Store → Store
closes fan most blocks zero s = s
closes fan most blocks (suc n) s = closes fan most blocks n (close fan most blocks s)

abbrev pub empty : Store
empty = record { volumes = record { lo = 0; fills = 0 ∷ [] }; disk = []; leaves = 0; points = none ∷ none ∷ none ∷ none ∷ none ∷ none ∷ none ∷ none ∷ none ∷ none ∷ none ∷ []; waiting = [] ∷ [] ∷ [] ∷ [] ∷ [] ∷ [] ∷ [] ∷ [] ∷ [] ∷ [] ∷ [] ∷ [] }

-- how many nodes an opening reads at each level, the lowest first
abbrev pub reads : ℕ → Store → ℕ → ℕ → List ℕ
reads fan s k zero = []
reads fan s k (suc n) = length (pending fan (seen_in s) s.leaves (point s.points) k) ∷ reads fan s (suc k) n

abbrev pub numbers : Seen → List ℕ → List ℕ
numbers seen [] = []
numbers seen (a ∷ rest) = elim (seen a) [ None ↦ numbers seen rest | Some node ↦ node.number ∷ numbers seen rest ]
