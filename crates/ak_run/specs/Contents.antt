-- What is made of a store by what sessions ask for.
use Rattle.std.specs.Prelude.{ℕ, if◌then◌else◌, List, [], ◌∷◌, ◌++◌}
use Rattle.ak_base.specs.declared.point.Point.{Point}
use Rattle.ak_run.specs.declared.asked.Asked.{Asked}
use Rattle.ak_run.specs.declared.asked.Asked.TheVariants.{Refused, Points, Rows, Flush}
use Rattle.ak_world.specs.Accepted.{given_to}
use Rattle.ak_world.specs.Puts.{after_points}
use Rattle.ak_world.specs.Steps.{flushed}
use Rattle.ak_world.specs.Worlds.{World as Store}

abbrev pub after_asked : Store → Asked → Store
after_asked c (Refused r) = c
after_asked c (Points names ts vs) = after_points c names ts vs
after_asked c (Rows metric) = c
after_asked c Flush = flushed c

-- What is asked is done, unless the store is worn.
abbrev pub after : Store → Asked → Store
after c a = if c.worn then c else after_asked c a

abbrev pub after_all : Store → List Asked → Store
after_all c [] = c
after_all c (a ∷ more) = after_all (after c a) more

-- of the points that are put, those of one name; none where they are refused
abbrev pub given_by : List ℕ → Store → Asked → List Point
given_by name c (Refused r) = []
given_by name c (Points names ts vs) = given_to c name names ts vs
given_by name c (Rows metric) = []
given_by name c Flush = []

-- the same of all that is asked, in order, until the store is worn
abbrev pub given_by_all : List ℕ → Store → List Asked → List Point
given_by_all name c [] = []
given_by_all name c (a ∷ more) = (if c.worn then [] else given_by name c a) ++ given_by_all name (after c a) more
