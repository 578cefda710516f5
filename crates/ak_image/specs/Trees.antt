-- The tree of a series: which leaves and inner nodes stand where, and what they refer to.
use Rattle.std.specs.Prelude.{ℕ, suc, ◌-◌, nat_le, nat_lt, ◌&&◌, if◌then◌else◌, List, [], ◌∷◌, ◌++◌, length}
use Rattle.ak_base.specs.declared.point.Addr.{Addr}
use Rattle.ak_base.specs.declared.point.Point.{Point}
use Rattle.ak_forest.specs.Tree.{IsTree}
use Rattle.ak_image.specs.Blocks.{Seen}
use Rattle.ak_image.specs.Nodes.{Reads}
use Rattle.ak_meta.specs.Contents.{rescue_at}
use Rattle.ak_meta.specs.declared.meta.SeriesMeta.{SeriesMeta}
use Rattle.ak_summary.specs.Folds.{summary_of}
use Rattle.ak_summary.specs.declared.summary.Summary.{Summary}
use Rattle.ak_volumes.specs.Ordinals.{Ordinals}
use Rattle.ak_world.specs.Leaves.{Leaf}
use Rattle.ak_world.specs.Views.{none, address_of}

-- the points of the leaves whose numbers are from one on and below another
abbrev pub points_between : List Leaf → ℕ → ℕ → List Point
points_between [] from to = []
points_between (leaf ∷ leaves) from to = if nat_le from leaf.number && nat_lt leaf.number to then leaf.points ++ points_between leaves from to else points_between leaves from to

-- their summary
abbrev pub total_of : List Leaf → ℕ → ℕ → Summary
total_of leaves from to = summary_of (points_between leaves from to)

-- the rescue address of a level; there is none above the tenth
abbrev pub point_of : List Addr → ℕ → ℕ
point_of rescue level = if nat_le level 10 then rescue_at rescue level else none

-- The tree of a series of which the record says this, and whose live leaves are these: each node whose last leaf is live stands
-- as far behind that leaf as its level says. Its links, its references and the rescue addresses name nodes by where they
-- stand, or something dead where they are live no more.
abbrev pub IsTreeOf : Ordinals → Seen → ℕ → SeriesMeta → List Leaf → Type 0
IsTreeOf o seen series known leaves =
    IsTree 32 o.lo series (known.leaves - length leaves) known.leaves (address_of leaves) (total_of leaves) (point_of known.rescue) (Reads o seen)

-- of each series, from a number on
abbrev pub AreTreed : Ordinals → Seen → ℕ → List SeriesMeta → List (List Leaf) → Type 0
AreTreed o seen series [] kept = Unit {0}
AreTreed o seen series (known ∷ others) [] = ⊥
AreTreed o seen series (known ∷ others) (leaves ∷ kept) = IsTreeOf o seen series known leaves × AreTreed o seen (suc series) others kept
