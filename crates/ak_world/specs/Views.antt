-- Views: what is saved of a store at once.
use Rattle.std.specs.Prelude.{ℕ, zero, suc, ◌+◌, ◌-◌, ◌*◌, ◌/◌, ◌^◌, ◌==◌, ◌≡◌, ◌⊎◌, nat_lt, if◌then◌else◌, List, [], ◌∷◌}
use Rattle.ak_base.specs.Points.{last_ts_from}
use Rattle.ak_base.specs.declared.limits.Limits.{Limits}
use Rattle.ak_base.specs.declared.point.Addr.{Addr}
use Rattle.ak_meta.specs.Contents.{Content, rescue_at}
use Rattle.ak_meta.specs.Leaves.{first_content, address_at}
use Rattle.ak_meta.specs.declared.meta.SeriesMeta.{SeriesMeta}
use Rattle.ak_world.specs.Leaves.{Leaf, Series}

-- A view: its number, what its record says (the limits, the live ordinals, and for each series its name, its leaf count, the
-- timestamp of its last closed leaf and its rescue addresses), and for each series the closed leaves that are live.
pub record View : Type 0 where
  pub number : ℕ
  pub content : Content
  pub kept : List (List Leaf)

-- the first view of a store: it has no series
abbrev pub first_view : Limits → View
first_view l = record { number = 1; content = first_content l; kept = [] }

-- the view is one of these
abbrev pub IsIn : View → List View → Type 0
IsIn view [] = ⊥
IsIn view (v ∷ vs) = (view ≡ v) ⊎ IsIn view vs

-- the address that names no block
abbrev pub none : ℕ
none = 2 ^ 64 - 1

-- the address of the leaf of a number
abbrev pub address_of : List Leaf → ℕ → ℕ
address_of [] m = none
address_of (leaf ∷ leaves) m = if leaf.number == m then leaf.address else address_of leaves m

-- the last leaf under the last node of a level, in a series of so many leaves
abbrev pub last_under : ℕ → ℕ → ℕ
last_under leaves k = 32 ^ k * (leaves / 32 ^ k) - 1

-- The rescue address of a level: none where no node of it was ever made. The node stands as far behind its last leaf as its
-- level says. Where that leaf was closed before the opening, it is what the opening view says.
abbrev pub rescue_of : SeriesMeta → Series → ℕ → ℕ
rescue_of opened s k = if nat_lt s.leaves (32 ^ k) then none
    else (if nat_lt (last_under s.leaves k) opened.leaves then rescue_at opened.rescue k else address_of s.closed (last_under s.leaves k) + k)

-- those of so many levels from one on
abbrev pub rescue_from : ℕ → SeriesMeta → Series → ℕ → List Addr
rescue_from zero opened s k = []
rescue_from (suc count) opened s k = address_at (rescue_of opened s k) ∷ rescue_from count opened s (suc k)

-- the timestamp of the last point of the last leaf, or this one where there is no leaf
abbrev pub last_time : ℕ → List Leaf → ℕ
last_time before [] = before
last_time before (leaf ∷ leaves) = last_time (last_ts_from before leaf.points) leaves

-- what the record of a view says of a series, in a store that was opened with this record of it
abbrev pub known_of : SeriesMeta → Series → SeriesMeta
known_of opened s = record {
  name = s.name;
  leaves = s.leaves;
  last = last_time opened.last s.closed;
  rescue = rescue_from 11 opened s 0;
}

-- what it says of all, in order; those that the opening view doesn't have had no leaf then
abbrev pub all_known : List SeriesMeta → List Series → List SeriesMeta
all_known opened [] = []
all_known [] (s ∷ ss) = known_of (record { name = s.name; leaves = 0; last = 0; rescue = [] }) s ∷ all_known [] ss
all_known (o ∷ opened) (s ∷ ss) = known_of o s ∷ all_known opened ss
