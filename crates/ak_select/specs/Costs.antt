-- How many nodes a fold reads: at each level only those over which a border runs.
use Rattle.std.specs.Prelude.{ℕ, suc, ◌+◌, nat_lt, nat_le, ◌&&◌, if◌then◌else◌, List, [], ◌∷◌}
use Rattle.ak_base.specs.Points.{last_ts_from}
use Rattle.ak_base.specs.declared.point.Point.{Point}
use Rattle.ak_select.specs.declared.window.Window.{Window}

-- 1 where a time lies behind the first of these points and not behind the last
abbrev pub crosses : ℕ → List Point → ℕ
crosses x [] = 0
crosses x (p ∷ ps) = if nat_lt p.ts x && nat_le x (last_ts_from p.ts ps) then 1 else 0

-- 1 where the first live leaf lies within these numbers and isn't their first
abbrev pub splits : ℕ → ℕ → ℕ → ℕ
splits low i j = if nat_lt i low && nat_lt low j then 1 else 0

-- of the three borders, those that run through the leaves from one number on and below another: both ends of the window,
-- and that between dead and live leaves
abbrev pub borders : Window → ℕ → (ℕ → ℕ → List Point) → ℕ → ℕ → ℕ
borders w low stretch i j = crosses w.least (stretch i j) + crosses (suc w.most) (stretch i j) + splits low i j

-- 1 where the path to a time goes over the leaves from one number on and below another: it runs through their points
abbrev pub path : ℕ → (ℕ → ℕ → List Point) → ℕ → ℕ → ℕ
path z stretch i j = crosses z (stretch i j)
