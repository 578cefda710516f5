-- The first live leaves of series.
use Rattle.std.specs.Prelude.{ℕ, ◌-◌, List, [], ◌∷◌, length}
use Rattle.ak_meta.specs.declared.meta.SeriesMeta.{SeriesMeta}
use Rattle.ak_world.specs.Leaves.{Leaf}

-- the number of the first live leaf of each series, which is its leaf count where none is live
abbrev pub firsts : List SeriesMeta → List (List Leaf) → List ℕ
firsts [] kept = []
firsts (known ∷ others) [] = []
firsts (known ∷ others) (leaves ∷ kept) = (known.leaves - length leaves) ∷ firsts others kept
