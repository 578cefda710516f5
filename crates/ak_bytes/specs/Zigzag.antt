-- Differences as numbers.
use Rattle.std.specs.Prelude.{ℕ, ◌+◌, ◌*◌, ◌-◌, ◌^◌, ℤ, pos, negsuc, ◌<ℤ◌}

-- 2d where d isn't below 0, and -2d - 1 where it is
abbrev pub zigzag_of : ℤ → ℕ
zigzag_of (pos n) = 2 * n
zigzag_of (negsuc n) = 2 * n + 1

-- more than -2 ^ 64 and less than 2 ^ 64
pub record IsDifference (d : ℤ) : Type 0 where
  pub low : negsuc (2 ^ 64 - 1) <ℤ d
  pub high : d <ℤ pos (2 ^ 64)
