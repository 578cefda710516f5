-- What a walk still has to give.
use Rattle.std.specs.Prelude.{◌≡◌, ℕ, ◌+◌, ◌-◌, ◌<◌, ◌≤◌, Bool, true, false, ◌&&◌, if◌then◌else◌, not, List, [], ◌∷◌, ◌++◌, length, reverse, take, drop, pos}
use Rattle.std.specs.List.{prefix_len}
use Rattle.ak_base.specs.Points.{IsHistory}
use Rattle.ak_base.specs.declared.point.Point.{Point}
use Rattle.ak_image.specs.Trees.{points_between}
use Rattle.ak_base.specs.Selections.{filter_has}
use Rattle.ak_select.specs.Windows.{chosen, is_within}
use Rattle.ak_walk.specs.declared.walking.Walk.{Walk}
use Rattle.ak_world.specs.Leaves.{Leaf}
use Rattle.ak_world.specs.Views.{none}

-- the leaves of a series with its open one behind them
abbrev pub with_open : List Leaf → ℕ → List Point → List Leaf
with_open leaves n written = leaves ++ record { number = n; address = none; points = written } ∷ []

-- the points that a walk is at
abbrev pub at_hand : Walk → List Point → List Point
at_hand w written = if w.in_open then written else w.leaf

-- whether a point is asked for
abbrev pub is_asked : Walk → Point → Bool
is_asked w p = is_within w.window p.ts && filter_has w.filter p.value

-- A forward walk: of what it is at, the points from a place on; and all leaves of which it has still to come to so many.
pub record IsForward (low n : ℕ) (all : List Leaf) (written : List Point) (w : Walk) (rest : List Point) : Type 0 where
  pub few : w.left ≤ n + 1
  pub alive : 0 < w.left → low ≤ n + 1 - w.left
  pub history : IsHistory (at_hand w written ++ points_between all (n + 1 - w.left) (n + 1))
  pub rest_is : rest ≡ chosen w.window w.filter (drop w.at (at_hand w written)) ++ chosen w.window w.filter (points_between all (n + 1 - w.left) (n + 1))

-- A backward walk: of what it is at, the points before a place; and so many leaves from the first on.
pub record IsBackward (n : ℕ) (all : List Leaf) (written : List Point) (w : Walk) (rest : List Point) : Type 0 where
  pub few : w.left ≤ n + 1
  pub history : IsHistory (points_between all 0 w.left ++ at_hand w written)
  pub rest_is : rest ≡ chosen w.window w.filter (points_between all 0 w.left) ++ chosen w.window w.filter (take w.at (at_hand w written))

-- What a walk has to give of a series with so many leaves, in rising order: at first all that is asked for.
pub record IsAhead (low n : ℕ) (leaves : List Leaf) (written : List Point) (w : Walk) (rest : List Point) : Type 0 where
  pub fresh : w.begun ≡ false → rest ≡ chosen w.window w.filter (points_between (with_open leaves n written) 0 (n + 1))
  pub forward : w.begun ≡ true → w.back ≡ false → IsForward low n (with_open leaves n written) written w rest
  pub backward : w.begun ≡ true → w.back ≡ true → IsBackward n (with_open leaves n written) written w rest

-- no point at hand is still to come
pub record IsPassed (w : Walk) (written : List Point) : Type 0 where
  pub on : w.back ≡ false → chosen w.window w.filter (drop w.at (at_hand w written)) ≡ []
  pub back : w.back ≡ true → chosen w.window w.filter (take w.at (at_hand w written)) ≡ []

-- the next point of a walk is the first of what is ahead, or the last where it goes back
abbrev pub Splits : Bool → List Point → Point → List Point → Type 0
Splits false rest p later = rest ≡ p ∷ later
Splits true rest p later = rest ≡ later ++ p ∷ []

-- these points come next, and the others later
abbrev pub Parts : Bool → List Point → List Point → List Point → Type 0
Parts false rest next later = rest ≡ next ++ later
Parts true rest next later = rest ≡ later ++ next

-- of the leaf that was read, the points from the place on, or those before it where the walk goes back
abbrev pub beside : Walk → List Point
beside w = if w.back then take w.at w.leaf else drop w.at w.leaf

-- the next so many of them, in rising order
abbrev pub nearest : Walk → ℕ → List Point
nearest w n = if w.back then drop (length (beside w) - n) (beside w) else take n (beside w)

-- how many of them in a row are asked for; none in the open leaf, and before the walk has begun
abbrev pub run_length : Walk → ℕ
run_length w = if w.begun && not w.in_open then prefix_len (is_asked w) (if w.back then reverse (beside w) else beside w) else 0

-- what stands for a point that isn't there
abbrev pub blank_point : Point
blank_point = record { ts = 0; value = pos 0 }
