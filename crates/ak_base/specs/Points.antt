-- Points and histories of points.
use Rattle.std.specs.Prelude.{ℕ, ◌-◌, ◌^◌, ◌<◌, ◌≤◌, pos, negsuc, ◌≤ℤ◌, List, [], ◌∷◌}
use Rattle.std.specs.List.{AllByRecursion}
use Rattle.ak_base.specs.declared.point.Point.{Point}

-- a timestamp of 64 bits, and a value of 64 bits with its sign
pub record IsPoint (p : Point) : Type 0 where
  pub ts : p.ts < 2 ^ 64
  pub low : negsuc (2 ^ 63 - 1) ≤ℤ p.value
  pub high : p.value ≤ℤ pos (2 ^ 63 - 1)

-- The first timestamp isn't before this one, and none is before the one before it.
abbrev pub IsHistoryFrom : ℕ → List Point → Type 0
IsHistoryFrom ts [] = Unit {0}
IsHistoryFrom ts (p ∷ ps) = (ts ≤ p.ts) × IsHistoryFrom p.ts ps

-- a list of points whose timestamps never fall
abbrev pub IsHistory : List Point → Type 0
IsHistory ps = IsHistoryFrom 0 ps

-- the timestamp of the last point, or this one where there is none
abbrev pub last_ts_from : ℕ → List Point → ℕ
last_ts_from ts [] = ts
last_ts_from ts (p ∷ ps) = last_ts_from p.ts ps

-- no timestamp is before that of any point that stands earlier
abbrev pub Rises : List Point → Type 0
Rises [] = Unit {0}
Rises (p ∷ ps) = AllByRecursion (λ q. p.ts ≤ q.ts) ps × Rises ps
