-- The frames of a pool that are used, with their series and leaves.
use Rattle.std.specs.Prelude.{◌≡◌, ◌≢◌, ℕ, ◌<◌, ◌≤◌, ◌⊎◌, ◌==◌, not, List, [], ◌∷◌, length, filter, map, if◌then◌else◌}
use Rattle.std.specs.List.{AllByRecursion}
use Rattle.ak_base.specs.declared.point.Point.{Point}

-- a used frame by its number
pub record Used : Type 0 where
  pub frame : ℕ
  pub series : ℕ
  pub leaf : List Point

abbrev pub used_frame : ℕ → ℕ → List Point → Used
used_frame frame series leaf = record { frame = frame; series = series; leaf = leaf }

-- how many frames there are, and those that are used, the most recently written first
pub record Frames : Type 0 where
  pub count : ℕ
  pub used : List Used

abbrev pub frames_of : ℕ → List Used → Frames
frames_of count used = record { count = count; used = used }

-- The numbers are below the count, and no two are the same.
abbrev pub AreNumbered : ℕ → List Used → Type 0
AreNumbered count [] = Unit {0}
AreNumbered count (u ∷ us) = (u.frame < count) × AllByRecursion (λ v. v.frame ≢ u.frame) us × AreNumbered count us

pub record AreFrames (p : Frames) : Type 0 where
  pub numbered : AreNumbered p.count p.used
  pub most : length p.used ≤ p.count

-- one of them has this number
abbrev pub IsUsed : List Used → ℕ → Type 0
IsUsed [] frame = ⊥
IsUsed (u ∷ us) frame = (u.frame ≡ frame) ⊎ IsUsed us frame

-- their numbers
abbrev pub numbers : List Used → List ℕ
numbers us = map (λ u. u.frame) us

-- the series of the frame with this number, and its leaf
abbrev pub series_of : List Used → ℕ → ℕ
series_of [] frame = 0
series_of (u ∷ us) frame = if u.frame == frame then u.series else series_of us frame

abbrev pub leaf_of : List Used → ℕ → List Point
leaf_of [] frame = []
leaf_of (u ∷ us) frame = if u.frame == frame then u.leaf else leaf_of us frame

-- those with other numbers
abbrev pub without : List Used → ℕ → List Used
without us frame = filter (λ u. not (u.frame == frame)) us

-- the same frames in the same order, this one with another leaf
abbrev pub with_leaf : List Used → ℕ → List Point → List Used
with_leaf us frame leaf = map (λ u. if u.frame == frame then used_frame frame u.series leaf else u) us

-- the same frames, this one first
abbrev pub moved_first : List Used → ℕ → List Used
moved_first us frame = used_frame frame (series_of us frame) (leaf_of us frame) ∷ without us frame

-- the number of the last one
abbrev pub IsLastFrame : List Used → ℕ → Type 0
IsLastFrame [] frame = ⊥
IsLastFrame (u ∷ []) frame = u.frame ≡ frame
IsLastFrame (u ∷ v ∷ us) frame = IsLastFrame (v ∷ us) frame
