-- The spelling of a list of points, and its size.
use Rattle.std.specs.Prelude.{ℕ, ◌-◌, ◌^◌, ◌<◌, pos, negsuc, ◌-ℤ◌, ◌≤ℤ◌, List, [], ◌∷◌, ◌++◌, length}
use Rattle.ak_base.specs.declared.point.Point.{Point}
use Rattle.ak_bytes.specs.Uvar.{uvar}
use Rattle.ak_bytes.specs.Zigzag.{zigzag_of}
use Rattle.ak_leaf.specs.declared.point.Before.{Before}

-- what the first point is spelled against
abbrev pub start : Before
start = record { ts = 0; value = pos 0 }

-- what the point behind this one is spelled against
abbrev pub after : Before → Point → Before
after before p = record { ts = p.ts; value = p.value }

-- what a point behind all these is spelled against
abbrev pub after_all : Before → List Point → Before
after_all before [] = before
after_all before (p ∷ ps) = after_all (after before p) ps

-- one point: how much later it is, and then how much its value differs
abbrev pub point_spelling : Before → Point → List ℕ
point_spelling before p = uvar (p.ts - before.ts) ++ uvar (zigzag_of (p.value -ℤ before.value))

abbrev pub spelling_after : Before → List Point → List ℕ
spelling_after before [] = []
spelling_after before (p ∷ ps) = point_spelling before p ++ spelling_after (after before p) ps

-- the spelling of a list of points
abbrev pub spelling : List Point → List ℕ
spelling ps = spelling_after start ps

-- the size of a list of points
abbrev pub leaf_size : List Point → ℕ
leaf_size ps = length (spelling ps)

-- each field in its width
pub record IsBefore (before : Before) : Type 0 where
  pub ts : before.ts < 2 ^ 64
  pub low : negsuc (2 ^ 63 - 1) ≤ℤ before.value
  pub high : before.value ≤ℤ pos (2 ^ 63 - 1)
