-- The points that a store accepted.
use Rattle.std.specs.Prelude.{ℕ, ℤ, zero, suc, ◌≡◌, if◌then◌else◌, Bool, false, List, [], ◌∷◌, ◌++◌, map, is_some}
use Rattle.std.specs.Str.{bytes_eq}
use Rattle.ak_base.specs.declared.point.Point.{Point}
use Rattle.ak_world.specs.Leaves.{Series, accepted_points}
use Rattle.ak_world.specs.Puts.{refusal_of}
use Rattle.ak_world.specs.Worlds.{World}

-- ---- Those of a store

-- a series: its name, and the points that were accepted
pub record SeriesPoints : Type 0 where
  pub name : List ℕ
  pub points : List Point

abbrev pub series_points : Series → SeriesPoints
series_points s = record { name = s.name; points = accepted_points s }

-- each series of a store, in order
abbrev pub accepted_now : World → List SeriesPoints
accepted_now w = map series_points w.series

-- one point more, behind those of the series of this number
abbrev pub accepted_with : List SeriesPoints → ℕ → Point → List SeriesPoints
accepted_with [] n p = []
accepted_with (a ∷ all) zero p = record a { points = a.points ++ p ∷ [] } ∷ all
accepted_with (a ∷ all) (suc n) p = a ∷ accepted_with all n p

-- the points of the series of this name, and none where no series has it
abbrev pub points_under : List SeriesPoints → List ℕ → List Point
points_under [] name = []
points_under (a ∷ all) name = if bytes_eq a.name name then a.points else points_under all name

abbrev pub accepted_of : World → List ℕ → List Point
accepted_of w name = points_under (accepted_now w) name

-- ---- Those that come

-- of the points of one time that are put under these names, those of one name
abbrev pub points_for : List ℕ → List (List ℕ) → ℕ → List ℤ → List Point
points_for name [] ts vs = []
points_for name (n ∷ names) ts [] = []
points_for name (n ∷ names) ts (v ∷ vs) = if bytes_eq n name then record { ts = ts; value = v } ∷ points_for name names ts vs else points_for name names ts vs

-- the same of a put, which gives none where it is refused
abbrev pub given_to : World → List ℕ → List (List ℕ) → ℕ → List ℤ → List Point
given_to w name names ts vs = if is_some (refusal_of w names ts) then [] else points_for name names ts vs

-- Points that are given come behind the old ones: all of them, or only the first ones where the store gets worn.
pub record Gains (worn : Bool) (given old new : List Point) : Type 0 where
  pub came : List Point
  pub rest : List Point
  pub new_is : new ≡ old ++ came
  pub given_is : given ≡ came ++ rest
  pub whole : worn ≡ false → rest ≡ []
