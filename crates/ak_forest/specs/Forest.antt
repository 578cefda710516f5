-- The invariant of the forest in memory over the disk, and its one step.
use Rattle.std.specs.Prelude.{◌≡◌, ◌≢◌, ℕ, zero, suc, ◌+◌, ◌*◌, ◌^◌, ◌<◌, ◌≤◌, ◌==◌, nat_le, nat_lt, if◌then◌else◌, true, List, [], ◌∷◌, ◌++◌, length, map, get_or, Some}
use Rattle.ak_forest.specs.Numbers.{made, between, carry}
use Rattle.ak_forest.specs.Tree.{Seen, Node, Reference, IsGrown, IsPart, reads_of, pending, found, found_in, width, none}
use Rattle.ak_summary.specs.declared.summary.Summary.{Summary}
use Rattle.ak_forest.specs.Image.{Volumes, live, seen_of, scan_of, IsWhole, IsSound}
use Rattle.ak_forest.specs.Laws.{IsWritten}

-- What is kept of one series: leaves ever closed, leaves that were dead at the opening, the rescue points, what waits by level, and, as a ghost, what
-- the points of the leaves from one number up to another come to.
pub record Kept : Type 0 where
  pub leaves : ℕ
  pub base : ℕ
  pub rescue : ℕ → ℕ
  pub waiting : ℕ → List Reference
  pub total : ℕ → ℕ → Summary

pub record IsPlanted (fan : ℕ) (v : Volumes) (seen : Seen) (series : ℕ) (k : Kept) : Type 0 where
  pub few : k.leaves < fan ^ 11
  pub low : ℕ
  pub home : ℕ → ℕ
  pub scanned : scan_of v seen series ≡ map home (between low k.leaves)
  pub grown : IsGrown fan v.lo series low k.leaves home k.total k.rescue (reads_of seen) k.base k.waiting

-- the invariant
pub record IsForest (fan count : ℕ) (kept : ℕ → Kept) (v : Volumes) (seen : Seen) : Type 0 where
  pub small : (i : ℕ) → get_or v.fills i 0 < width
  pub spelled : (at : ℕ) → live v at ≡ true → (node : Node) × (seen at ≡ Some node) × (node.series < count)
  pub whole : IsWhole fan seen
  pub each : (series : ℕ) → series < count → IsPlanted fan v seen series (kept series)

-- The step in memory: leaf number leaves, whose points come to value, is closed as the group of these nodes at an address.
pub record IsStep (fan series at : ℕ) (value : Summary) (join : Summary → Summary → Summary) (old new : Kept) (fresh : ℕ → Reference) (nodes : ℕ → Node) : Type 0 where
  pub one_more : new.leaves ≡ suc old.leaves
  pub same_base : new.base ≡ old.base
  pub parts : (k : ℕ) → k ≤ carry fan old.leaves → IsPart join series (made fan k old.leaves) k at value old.rescue old.waiting fresh (nodes k)
  pub new_points : (k : ℕ) → k ≤ carry fan old.leaves → new.rescue k ≡ at + k
  pub old_points : (k : ℕ) → carry fan old.leaves < k → new.rescue k ≡ old.rescue k
  pub emptied : (k : ℕ) → k < carry fan old.leaves → new.waiting k ≡ []
  pub pushed : new.waiting (carry fan old.leaves) ≡ old.waiting (carry fan old.leaves) ++ fresh (carry fan old.leaves) ∷ []
  pub old_levels : (k : ℕ) → carry fan old.leaves < k → new.waiting k ≡ old.waiting k
  pub worth : new.total old.leaves (suc old.leaves) ≡ value
  pub same_total : (i j : ℕ) → j ≤ old.leaves → new.total i j ≡ old.total i j
  pub ends : (a b : Summary) → (join a b).end ≡ b.end
  -- asked only of leaves that were live at the opening
  pub adds : (i j k : ℕ) → old.base ≤ i → i < j → j < k → k ≤ suc old.leaves → join (new.total i j) (new.total j k) ≡ new.total i k

-- a close keeps the invariant
abbrev pub Closed : Type 0
Closed = (fan count series : ℕ) (value : Summary) (join : Summary → Summary → Summary) (kept kept' : ℕ → Kept) (lo n : ℕ) (front : List ℕ) (spells spells' : Seen) (fresh : ℕ → Reference) (nodes : ℕ → Node)
    → 1 < fan → series < count → (kept' series).leaves < fan ^ 11
    → IsWritten lo n (carry fan (kept series).leaves) front spells spells' nodes
    → IsStep fan series ((lo + length front) * width + n) value join (kept series) (kept' series) fresh nodes
    → ((other : ℕ) → series ≢ other → kept other ≡ kept' other)
    → IsForest fan count kept record { lo = lo; fills = front ++ n ∷ [] } (seen_of record { lo = lo; fills = front ++ n ∷ [] } spells)
    → IsForest fan count kept' record { lo = lo; fills = front ++ (n + suc (carry fan (kept series).leaves)) ∷ [] }
    (seen_of record { lo = lo; fills = front ++ (n + suc (carry fan (kept series).leaves)) ∷ [] } spells')

-- a switch keeps it, whether it gives up the least ordinal
abbrev pub Turned : Type 0
Turned = (fan count : ℕ) (kept : ℕ → Kept) (lo fill : ℕ) (fills : List ℕ) (spells : Seen) → 1 < fan
    → IsForest fan count kept record { lo = lo; fills = fill ∷ fills } (seen_of record { lo = lo; fills = fill ∷ fills } spells)
    → IsForest fan count kept record { lo = suc lo; fills = fills ++ 0 ∷ [] } (seen_of record { lo = suc lo; fills = fills ++ 0 ∷ [] } spells)

-- or none
abbrev pub Widened : Type 0
Widened = (fan count : ℕ) (kept : ℕ → Kept) (lo : ℕ) (fills : List ℕ) (spells : Seen)
    → IsForest fan count kept record { lo = lo; fills = fills } (seen_of record { lo = lo; fills = fills } spells)
    → IsForest fan count kept record { lo = lo; fills = fills ++ 0 ∷ [] } (seen_of record { lo = lo; fills = fills ++ 0 ∷ [] } spells)

-- what an opening keeps: all that is not dead now was not dead at the opening
pub record IsOpened (fan : ℕ) (join : Summary → Summary → Summary) (seen : Seen) (low leaves : ℕ) (rescue : ℕ → ℕ) (total : ℕ → ℕ → Summary) (k : Kept) : Type 0 where
  pub same_leaves : k.leaves ≡ leaves
  pub from : k.base ≡ low
  pub same_points : k.rescue ≡ rescue
  pub same_total : k.total ≡ total
  pub waits : k.waiting ≡ (λ l. map (found join seen l) (pending fan seen leaves rescue l))

-- an opening of a sound image brings it about
abbrev pub Opened : Type 0
Opened = (fan count : ℕ) (join : Summary → Summary → Summary) (leaves : ℕ → ℕ) (rescue : ℕ → ℕ → ℕ) (total : ℕ → ℕ → ℕ → Summary) (kept : ℕ → Kept) (v : Volumes) (spells : Seen) → 1 < fan
    → ((a b : Summary) → (join a b).end ≡ b.end)
    → ((series : ℕ) → series < count → leaves series < fan ^ 11)
    → (sound : IsSound fan count leaves rescue total v (seen_of v spells))
    → ((series : ℕ) (known : series < count) (i j k : ℕ) → (sound.each series known).low ≤ i → i < j → j < k → k ≤ leaves series → join (total series i j) (total series j k) ≡ total series i k)
    → ((series : ℕ) (known : series < count) → IsOpened fan join (seen_of v spells) (sound.each series known).low (leaves series) (rescue series) (total series) (kept series))
    → IsForest fan count kept v (seen_of v spells)

-- what the forest stands on is a sound image
abbrev pub Stands : Type 0
Stands = (fan count : ℕ) (kept : ℕ → Kept) (v : Volumes) (seen : Seen) → IsForest fan count kept v seen
    → IsSound fan count (λ s. (kept s).leaves) (λ s. (kept s).rescue) (λ s. (kept s).total) v seen

-- the beginning: no series, one empty ordinal; and a series more
abbrev pub Born : Type 0
Born = (fan : ℕ) (kept : ℕ → Kept) (spells : Seen) → IsForest fan 0 kept record { lo = 0; fills = 0 ∷ [] } (seen_of record { lo = 0; fills = 0 ∷ [] } spells)

pub record IsEmpty (k : Kept) : Type 0 where
  pub leaves : k.leaves ≡ 0
  pub base : k.base ≡ 0
  pub points : (l : ℕ) → k.rescue l ≡ none
  pub waits : (l : ℕ) → k.waiting l ≡ []

abbrev pub Added : Type 0
Added = (fan count : ℕ) (kept : ℕ → Kept) (v : Volumes) (seen : Seen) → 1 < fan → IsEmpty (kept count) → ((at : ℕ) (node : Node) → seen at ≡ Some node → live v at ≡ true)
    → IsForest fan count kept v seen → IsForest fan (suc count) kept v seen

-- the step as it is computed: the references of node k of the group, the nodes, and the references to them
abbrev pub takes : (Summary → Summary → Summary) → ℕ → ℕ → ℕ → Summary → Kept → ℕ → List Reference
takes join fan series at value old zero = []
takes join fan series at value old (suc k) = old.waiting k ++ found_in join k (at + k)
    record { series = series; level = k; number = made fan k old.leaves; elder = old.rescue k; references = takes join fan series at value old k; value = value } ∷ []

abbrev pub part : (Summary → Summary → Summary) → ℕ → ℕ → ℕ → Summary → Kept → ℕ → Node
part join fan series at value old k = record { series = series; level = k; number = made fan k old.leaves; elder = old.rescue k; references = takes join fan series at value old k; value = value }

abbrev pub closed_kept : (Summary → Summary → Summary) → ℕ → ℕ → ℕ → Summary → (ℕ → ℕ → Summary) → Kept → Kept
closed_kept join fan series at value total old = record {
  leaves = suc old.leaves;
  base = old.base;
  rescue = λ k. if nat_le k (carry fan old.leaves) then at + k else old.rescue k;
  waiting = λ k. if nat_lt k (carry fan old.leaves) then []
      else if k == carry fan old.leaves then old.waiting k ++ found_in join k (at + k) (part join fan series at value old k) ∷ []
      else old.waiting k;
  total = total;
}

-- It is a step, whatever the points come to.
abbrev pub Computed : Type 0
Computed = (join : Summary → Summary → Summary) (fan series at : ℕ) (value : Summary) (total : ℕ → ℕ → Summary) (old : Kept)
    → ((a b : Summary) → (join a b).end ≡ b.end)
    → total old.leaves (suc old.leaves) ≡ value → ((i j : ℕ) → j ≤ old.leaves → total i j ≡ old.total i j)
    → ((i j k : ℕ) → old.base ≤ i → i < j → j < k → k ≤ suc old.leaves → join (total i j) (total j k) ≡ total i k)
    → IsStep fan series at value join old (closed_kept join fan series at value total old) (λ k. found_in join k (at + k) (part join fan series at value old k)) (part join fan series at value old)
