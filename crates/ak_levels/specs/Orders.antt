-- What waits in order of time.
use Rattle.std.specs.Prelude.{ℕ, zero, suc, ◌≤◌, List, [], ◌∷◌, ◌++◌}
use Rattle.ak_inner.specs.declared.reference.Ref.{Ref}
use Rattle.ak_levels.specs.Pending.{Lists, pending_at}
use Rattle.ak_summary.specs.Summaries.{IsOrderly}

-- all that waits below a level, from the highest level down
abbrev pub all_below : Lists → ℕ → List Ref
all_below v zero = []
all_below v (suc k) = pending_at v k ++ all_below v k

-- The first of these references begins no earlier than one time, none before the one before it ends, and the last ends no later
-- than another time.
abbrev pub AreInOrder : ℕ → ℕ → List Ref → Type 0
AreInOrder from to [] = from ≤ to
AreInOrder from to (r ∷ rs) = (from ≤ r.summary.begin) × IsOrderly r.summary × AreInOrder r.summary.end to rs
