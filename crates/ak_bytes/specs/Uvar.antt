-- The spelling of a number below 2 ^ 70: groups of seven bits, lowest first.
use Rattle.std.specs.Prelude.{◌≡◌, ℕ, zero, suc, ◌+◌, ◌*◌, ◌/◌, ◌%◌, ◌<◌, ◌≤◌, List, [], ◌∷◌, nat_lt, if◌then◌else◌}

-- The grammar. A byte below 128 is the last, and stands for itself. One from 128 on has the low seven
-- bits, and the bytes after it stand for the rest, which isn't 0: so the last byte is zero only where
-- it is the only one.
abbrev pub IsUvar : List ℕ → ℕ → Type 0
IsUvar [] n = ⊥
IsUvar (b ∷ []) n = (b < 128) × (n ≡ b)
IsUvar (b ∷ c ∷ bs) n = (128 ≤ b) × (b < 256) × (high : ℕ) × (0 < high) × (n + 128 ≡ b + 128 * high) × IsUvar (c ∷ bs) high

-- the groups of n, at most k of them before the last
unfoldable pub groups : ℕ → ℕ → List ℕ
groups zero n = n ∷ []
groups (suc k) n = if nat_lt n 128 then n ∷ [] else ((n % 128 + 128) ∷ groups k (n / 128))

-- the spelling of a number below 2 ^ 70
unfoldable pub uvar : ℕ → List ℕ
uvar n = groups 9 n
