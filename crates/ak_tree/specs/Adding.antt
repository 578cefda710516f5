-- Why no series can be added.
use Rattle.std.specs.Prelude.{ℕ, ◌≡◌, ◌<◌}
use Rattle.ak_tree.specs.declared.forest.AddError.{AddError}
use Rattle.ak_tree.specs.declared.forest.AddError.TheVariants.{Memory, Full}

-- there is no memory, or what is needed is more than the room
abbrev pub IsAddError : ℕ → ℕ → AddError → Type 0
IsAddError need room Memory = Unit {0}
IsAddError need room (Full n r) = (n ≡ need) × (r ≡ room) × (room < need)
