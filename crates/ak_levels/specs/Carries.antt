-- How many levels a leaf fills.
use Rattle.std.specs.Prelude.{ℕ, zero, suc, ◌+◌, ◌%◌, ◌^◌, ◌==◌, if◌then◌else◌}

-- how many of the powers 32 ^ 1 to 32 ^ top divide n
abbrev pub dividing_powers : ℕ → ℕ → ℕ
dividing_powers zero n = 0
dividing_powers (suc top) n = dividing_powers top n + (if n % 32 ^ suc top == 0 then 1 else 0)

-- how many levels leaf m fills
unfoldable pub carry_of : ℕ → ℕ
carry_of m = dividing_powers 10 (suc m)
