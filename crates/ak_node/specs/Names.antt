-- Names of points, by what the forest and the index know of them.
use Rattle.std.specs.Prelude.{ℕ, ◌≡◌, ◌<◌, if◌then◌else◌, List, [], ◌∷◌, ◌++◌, length, position, get_or, Option, Some, None}
use Rattle.std.specs.List.{list_any}
use Rattle.std.specs.Str.{bytes_eq}
use Rattle.ak_levels.specs.Pending.{Lists, no_lists}
use Rattle.ak_meta.specs.Contents.{Content, names_of}
use Rattle.ak_meta.specs.Leaves.{with_series}
use Rattle.ak_tree.specs.Standing.{Trees, last_known}
use Rattle.ak_world.specs.Puts.{late_behind, first_of}

-- the place of a name among those known
abbrev pub place_in : List (List ℕ) → List ℕ → Option ℕ
place_in known name = position (λ n. bytes_eq name n) known

-- the timestamp of the last point of the series in this place
abbrev pub last_in_place : Trees → Option ℕ → Option ℕ
last_in_place f None = None
last_in_place f (Some n) = last_known f n

-- the last timestamp of the first of these names that is late
abbrev pub late_known : Trees → List (List ℕ) → List (List ℕ) → ℕ → Option ℕ
late_known f known [] ts = None
late_known f known (name ∷ names) ts = first_of (late_behind (last_in_place f (place_in known name)) ts) (late_known f known names ts)

-- the names that aren't known are added, in order
abbrev pub with_all : Content → List (List ℕ) → Content
with_all c [] = c
with_all c (name ∷ names) = with_all (if list_any (λ n. bytes_eq name n) (names_of c.series) then c else with_series c name) names

-- with them, what waits of each series: of those that are added nothing
abbrev pub levels_with : Content → List Lists → List (List ℕ) → List Lists
levels_with c levels [] = levels
levels_with c levels (name ∷ names) =
    let known = list_any (λ n. bytes_eq name n) (names_of c.series) in
    levels_with (if known then c else with_series c name) (if known then levels else levels ++ no_lists ∷ []) names

-- Where a place is kept of a name, it is the name's place among those known.
abbrev pub ArePlaces : List (Option ℕ) → List (List ℕ) → List (List ℕ) → Type 0
ArePlaces places names known = (i place : ℕ) → i < length names → get_or places i None ≡ Some place
    → Some place ≡ place_in known (get_or names i [])
