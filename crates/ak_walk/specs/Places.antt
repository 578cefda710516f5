-- Where the leaves of a series are found.
use Rattle.std.specs.Prelude.{ℕ, suc, ◌-◌, ◌<◌, ◌≤◌, List, length, Option, Some, None}
use Rattle.std.specs.List.{AllByRecursion}
use Rattle.ak_base.specs.declared.point.Point.{Point}
use Rattle.ak_forest.specs.Numbers.{end}
use Rattle.ak_forest.specs.Tree.{Child}
use Rattle.ak_scene.specs.Scenes.{IsScene}
use Rattle.ak_image.specs.Blocks.{Seen}
use Rattle.ak_image.specs.Nodes.{reference_of}
use Rattle.ak_image.specs.Trees.{points_between, total_of}
use Rattle.ak_inner.specs.declared.reference.Ref.{Ref}
use Rattle.ak_summary.specs.Folds.{summary_of}
use Rattle.ak_volumes.specs.Ordinals.{Ordinals}
use Rattle.ak_world.specs.Leaves.{Leaf}
use Rattle.ak_world.specs.Views.{address_of}

-- The reference to a node of a level by its number; none only where it has no live leaf.
abbrev pub IsRefTo : (o : Ordinals) (seen : Seen) (series : ℕ) (leaves : List Leaf) → IsScene o seen series leaves → ℕ → ℕ → Option Ref → Type 0
IsRefTo o seen series leaves scene level number None = end 32 level number ≤ scene.known.leaves - length leaves
IsRefTo o seen series leaves scene level number (Some r) =
    Child 32 o.lo (scene.known.leaves - length leaves) (address_of leaves) (total_of leaves) level number (reference_of r)

-- The first leaf from one number on that ends no earlier than a time: it does, and those before it end earlier. Where there is none up to
-- another number, all up to it do.
abbrev pub IsSought : (o : Ordinals) (seen : Seen) (series : ℕ) (leaves : List Leaf) → IsScene o seen series leaves → ℕ → ℕ → ℕ → Option ℕ → Type 0
IsSought o seen series leaves scene x from to None = AllByRecursion (λ (p : Point). p.ts < x) (points_between leaves from to)
IsSought o seen series leaves scene x from to (Some m) =
    (from ≤ m) × (m < to) × (scene.known.leaves - length leaves ≤ m) × AllByRecursion (λ (p : Point). p.ts < x) (points_between leaves from m)
    × (x ≤ (summary_of (points_between leaves m (suc m))).end)
