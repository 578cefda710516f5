-- Rows that are dropped before those that are kept.
use Rattle.std.specs.Prelude.{◌≡◌, ℕ, ◌-◌, ◌==◌, Bool, true, false, List, [], drop, Option, Some, None}
use Rattle.ak_rows.specs.Lines.{Line}

-- So many rows were dropped and the rest is to come; or there were fewer, and none is.
abbrev pub IsDropped : Bool → ℕ → ℕ → List Line → List Line → Type 0
IsDropped true skip left before now = (left ≡ 0) × (drop skip before ≡ now)
IsDropped false skip left before now = (drop skip before ≡ []) × (now ≡ [])

-- how many may still be kept after one more
abbrev pub kept : Option ℕ → Option ℕ
kept None = None
kept (Some n) = Some (n - 1)

-- whether none may be kept
abbrev pub is_none_kept : Option ℕ → Bool
is_none_kept None = false
is_none_kept (Some n) = n == 0
