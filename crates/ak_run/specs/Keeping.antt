-- What a view that a stop leaves has to do with a run.
use Rattle.std.specs.Prelude.{ℕ, ◌≡◌, ◌-◌, ◌<◌, ◌≤◌, ◌==◌, if◌then◌else◌, List, [], ◌∷◌, length}
use Rattle.ak_run.specs.Replies.{Reply}

-- Of the replies at this port, of which so many bytes were told, each whose first byte was told confirms a view of this
-- number at most.
abbrev pub Confirms : ℕ → ℕ → ℕ → List Reply → Type 0
Confirms port told number [] = Unit {0}
Confirms port told number (r ∷ rs) = (r.port ≡ port → 0 < told → r.confirms ≤ number)
    × Confirms port (told - length (if r.port == port then r.bytes else [])) number rs
