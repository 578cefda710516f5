-- How the blocks of a series and what waits of it in memory belong together.
use Rattle.std.specs.Prelude.{ℕ, suc, ◌≡◌, ◌+◌, ◌-◌, ◌/◌, ◌^◌, ◌<◌, List, [], ◌∷◌, length, map}
use Rattle.ak_base.specs.declared.point.Point.{Point}
use Rattle.ak_forest.specs.Tree.{Node, Reference, IsGrown}
use Rattle.ak_image.specs.Blocks.{Seen}
use Rattle.ak_image.specs.Laid.{spot, series_in}
use Rattle.ak_image.specs.Nodes.{reference_of, IsInnerOf, Reads}
use Rattle.ak_image.specs.Trees.{total_of, point_of}
use Rattle.ak_levels.specs.Carries.{carry_of}
use Rattle.ak_levels.specs.Closes.{leaf_ref, taken}
use Rattle.ak_levels.specs.Entries.{AreLawful}
use Rattle.ak_levels.specs.Orders.{all_below, AreInOrder}
use Rattle.ak_levels.specs.Pending.{Lists, pending_at}
use Rattle.ak_meta.specs.Contents.{Content}
use Rattle.ak_meta.specs.Leaves.{leaves_at}
use Rattle.ak_meta.specs.declared.meta.SeriesMeta.{SeriesMeta}
use Rattle.ak_summary.specs.Folds.{no_summary}
use Rattle.ak_volumes.specs.Ordinals.{Ordinals}
use Rattle.ak_world.specs.Leaves.{Leaf}
use Rattle.ak_world.specs.Views.{address_of}

-- what waits at a level, as the trees have it
abbrev pub waiting_of : Lists → ℕ → List Reference
waiting_of v k = map reference_of (pending_at v k)

-- The blocks of a series are the tree over its live leaves, and what waits are references to the nodes that no node refers to, but
-- for those that were dead at the opening, when the leaves from number base on were live. They are in order of time.
pub record IsPlanted (o : Ordinals) (seen : Seen) (series : ℕ) (known : SeriesMeta) (leaves : List Leaf) (base : ℕ) (v : Lists) : Type 0 where
  pub grown : IsGrown 32 o.lo series (known.leaves - length leaves) known.leaves (address_of leaves) (total_of leaves) (point_of known.rescue) (Reads o seen)
      base (waiting_of v)
  pub order : AreInOrder 0 known.last (all_below v 11)

-- of each series, from a number on
abbrev pub ArePlanted : Ordinals → Seen → ℕ → List SeriesMeta → List (List Leaf) → List ℕ → List Lists → Type 0
ArePlanted o seen n [] kept bases levels = (kept ≡ []) × (bases ≡ []) × (levels ≡ [])
ArePlanted o seen n (known ∷ others) (leaves ∷ kept) (base ∷ bases) (v ∷ levels) = IsPlanted o seen n known leaves base v × ArePlanted o seen (suc n) others kept bases levels
ArePlanted o seen n (known ∷ others) [] bases levels = ⊥
ArePlanted o seen n (known ∷ others) (leaves ∷ kept) [] levels = ⊥
ArePlanted o seen n (known ∷ others) (leaves ∷ kept) (base ∷ bases) [] = ⊥

-- what waits of each series is lawful
abbrev pub AreAllLawful : List SeriesMeta → List Lists → Type 0
AreAllLawful [] levels = levels ≡ []
AreAllLawful (known ∷ others) [] = ⊥
AreAllLawful (known ∷ others) (v ∷ levels) = AreLawful known.leaves v × AreAllLawful others levels

-- The inner node of a level above 0 in the group of the next leaf of a series, where this waits.
abbrev pub next_node : Content → ℕ → List Point → Lists → ℕ → Node
next_node c n ps v k = record {
  series = n;
  level = suc k;
  number = leaves_at c.series n / 32 ^ suc k;
  elder = point_of (series_in c.series n).rescue (suc k);
  references = map reference_of (taken v (leaf_ref (spot c.ordinals) ps) k);
  value = no_summary;
}

-- the inner nodes of this group stand behind the leaf
abbrev pub AreNodes : Seen → Content → ℕ → List Point → Lists → Type 0
AreNodes seen c n ps v = (k : ℕ) → k < carry_of (leaves_at c.series n) → IsInnerOf seen (spot c.ordinals + suc k) (next_node c n ps v k)
