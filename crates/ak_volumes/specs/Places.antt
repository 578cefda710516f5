-- Where a group of blocks stands.
use Rattle.std.specs.Prelude.{◌≡◌, ℕ, ◌+◌, ◌-◌, ◌^◌, ◌<◌, ◌≤◌}
use Rattle.ak_volumes.specs.declared.volumes.Place.{Place}
use Rattle.ak_volumes.specs.declared.volumes.Place.TheVariants.{Here, Switch, Worn}
use Rattle.ak_volumes.specs.Ordinals.{Ordinals, newest, newest_fill, address}

-- at the fill of the newest ordinal where it fits there; else a new ordinal has to begin first, where there is one
abbrev pub IsPlace : Ordinals → ℕ → Place → Type 0
IsPlace o group (Here a) = (newest_fill o + group ≤ o.blocks) × (a.0 ≡ address (newest o) (newest_fill o))
IsPlace o group Switch = (o.blocks < newest_fill o + group) × (newest o < 2 ^ 32 - 1)
IsPlace o group Worn = (o.blocks < newest_fill o + group) × (newest o ≡ 2 ^ 32 - 1)
