-- Points that a store can take.
use Rattle.std.specs.Prelude.{◌≡◌, length}
use Rattle.std.specs.List.{AllByRecursion}
use Rattle.ak_meta.specs.Contents.{IsCanonical}
use Rattle.ak_run.specs.declared.asked.Asked.{Asked}
use Rattle.ak_run.specs.declared.asked.Asked.TheVariants.{Refused, Points, Rows, Flush}

-- There are as many values as names, and each name is canonical.
abbrev pub IsAllowed : Asked → Type 0
IsAllowed (Refused r) = Unit {0}
IsAllowed (Points names ts vs) = (length vs ≡ length names) × AllByRecursion IsCanonical names
IsAllowed (Rows metric) = Unit {0}
IsAllowed Flush = Unit {0}
