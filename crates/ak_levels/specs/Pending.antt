-- The references that wait at each level, and the levels that have places for them.
use Rattle.std.specs.Prelude.{◌≡◌, ℕ, ◌<◌, ◌≤◌, Box, Bool, true, false, Option, Some, None, List, [], ◌++◌, length, drop, map, replicate, slice_index_or, slice_set}
use Rattle.std.specs.List.{AllByRecursion}
use Rattle.std.specs.declared.alloc.Global.{Global}
use Rattle.ak_inner.specs.declared.inner.Inner.{Inner}
use Rattle.ak_inner.specs.declared.reference.Ref.{Ref}

-- by level, from 0: the references that wait, the oldest first, and whether the level has its 32 places
pub record Lists : Type 0 where
  pub pending : List (List Ref)
  pub placed : List Bool

abbrev pub lists : List (List Ref) → List Bool → Lists
lists pending placed = record { pending = pending; placed = placed }

-- no references and no places
abbrev pub no_lists : Lists
no_lists = lists (replicate 11 []) (replicate 11 false)

-- There are 11 levels, and at none wait more references than a node holds.
pub record AreLists (v : Lists) : Type 0 where
  pub levels : length v.pending ≡ 11
  pub places : length v.placed ≡ 11
  pub most : AllByRecursion (λ rs. length rs ≤ 32) v.pending

-- the references that wait at a level
abbrev pub pending_at : Lists → ℕ → List Ref
pending_at v level = slice_index_or v.pending level []

-- A reference can be pushed on the level: it has places, and one of them is free.
pub record HasRoom (v : Lists) (level : ℕ) : Type 0 where
  pub placed : slice_index_or v.placed level false ≡ true
  pub free : length (pending_at v level) < 32

-- Others wait at this level, and nothing else changes.
abbrev pub with_pending : Lists → ℕ → List Ref → Lists
with_pending v level rs = lists (slice_set v.pending level rs) v.placed

-- So many levels from 0 on have places, and nothing else changes.
abbrev pub with_places : Lists → ℕ → Lists
with_places v count = lists v.pending (replicate count true ++ drop count v.placed)

-- what is seen of one level
abbrev pub refs_of : Option (Box Inner Global) → List Ref
refs_of None = []
refs_of (Some places) = places.value

abbrev pub is_placed : Option (Box Inner Global) → Bool
is_placed None = false
is_placed (Some places) = true

abbrev pub lists_of : List (Option (Box Inner Global)) → Lists
lists_of levels = lists (map refs_of levels) (map is_placed levels)
