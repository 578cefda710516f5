-- One series: its closed leaves, and the points of its open leaf.
use Rattle.std.specs.Prelude.{ℕ, ◌+◌, nat_le, if◌then◌else◌, Bool, List, [], ◌∷◌, ◌++◌, map, Option, Some, None}
use Rattle.std.specs.List.{flat_map}
use Rattle.ak_base.specs.declared.point.Point.{Point}
use Rattle.ak_leaf.specs.Spelling.{leaf_size}
use Rattle.ak_volumes.specs.Ordinals.{ordinal_of}

-- a closed leaf: its number in its series, where it stands, and its points
pub record Leaf : Type 0 where
  pub number : ℕ
  pub address : ℕ
  pub points : List Point

-- A series: its name, its closed leaves in order, the points of its open leaf, how many leaves were ever closed, and the
-- timestamp of its last point. Leaves that were live no more at the opening aren't among its closed ones.
pub record Series : Type 0 where
  pub name : List ℕ
  pub closed : List Leaf
  pub written : List Point
  pub leaves : ℕ
  pub last : Option ℕ

-- a series that begins
abbrev pub new_series : List ℕ → Series
new_series name = record { name = name; closed = []; written = []; leaves = 0; last = None }

-- the open leaf has room for the point
abbrev pub is_fit : List Point → Point → Bool
is_fit ps p = nat_le (leaf_size (ps ++ p ∷ [])) 4032

-- a point more in the open leaf
abbrev pub with_point : Series → Point → Series
with_point s p = record s { written = s.written ++ p ∷ []; last = Some p.ts }

-- the open leaf as a closed one at an address
abbrev pub leaf_at : Series → ℕ → Leaf
leaf_at s a = record { number = s.leaves; address = a; points = s.written }

-- the open leaf is closed, and stands at an address
abbrev pub closed_at : Series → ℕ → Series
closed_at s a = record s { closed = s.closed ++ leaf_at s a ∷ []; written = []; leaves = s.leaves + 1 }

-- the leaves whose ordinal is this one or later
abbrev pub leaves_from : ℕ → List Leaf → List Leaf
leaves_from lo [] = []
leaves_from lo (leaf ∷ leaves) = if nat_le lo (ordinal_of leaf.address) then leaf ∷ leaves_from lo leaves else leaves_from lo leaves

-- the same of each series
abbrev pub kept_from : ℕ → List (List Leaf) → List (List Leaf)
kept_from lo kept = map (leaves_from lo) kept

abbrev pub points_of : List Leaf → List Point
points_of leaves = flat_map (λ (leaf : Leaf). leaf.points) leaves

-- the points that are kept: those of the leaves that are live, and of the open one
abbrev pub kept_points : ℕ → Series → List Point
kept_points lo s = points_of (leaves_from lo s.closed) ++ s.written

-- all points that were accepted, but for those that were live no more at the opening
abbrev pub accepted_points : Series → List Point
accepted_points s = points_of s.closed ++ s.written
