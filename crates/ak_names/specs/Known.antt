-- The names that numbers stand for, and the texts that are kept with numbers.
use Rattle.std.specs.Prelude.{ℕ, ◌≡◌, ◌<◌, ◌≤◌, List, [], map, length, get_or}
use Rattle.std.specs.List.{AllByRecursion, sum_by}
use Rattle.ak_names.specs.Names.{DoesName}

-- each is the number of one of these names
abbrev pub AreNumbers : List (List ℕ) → List ℕ → Type 0
AreNumbers names numbers = AllByRecursion (λ n. n < length names) numbers

-- the names of these numbers, in order
abbrev pub names_at : List (List ℕ) → List ℕ → List (List ℕ)
names_at names numbers = map (λ n. get_or names n []) numbers

-- A text names the names of the numbers that are kept with it.
pub record NamesThese (names : List (List ℕ)) (kept : List ℕ × List ℕ) : Type 0 where
  pub known : AreNumbers names kept.1
  pub named : DoesName kept.0 (names_at names kept.1)

-- So many texts, of so many bytes in all and with so many numbers in all, may be kept.
abbrev pub AreFew : ℕ → ℕ → ℕ → Type 0
AreFew texts bytes numbers = (texts ≤ 65536) × (bytes ≤ 4194304) × (numbers ≤ 262144)

-- Texts with numbers have so many bytes in all, and so many numbers in all, and are few.
pub record AreCounted (kept : List (List ℕ × List ℕ)) (bytes numbers : ℕ) : Type 0 where
  pub bytes_are : bytes ≡ sum_by (λ e. length e.0) kept
  pub numbers_are : numbers ≡ sum_by (λ e. length e.1) kept
  pub few : AreFew (length kept) bytes numbers
