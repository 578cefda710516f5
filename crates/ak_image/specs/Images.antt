-- Images: what a stop leaves of a disk.
use Rattle.std.specs.Prelude.{ℕ, suc, ◌≡◌, List, [], ◌∷◌, length, map, Some}
use Rattle.ak_host.specs.Files.{Files, file_at}
use Rattle.ak_image.specs.Blocks.{Seen, seen_in, HasVolumes}
use Rattle.ak_image.specs.Chains.{IsChain}
use Rattle.ak_image.specs.Groups.{AreRows}
use Rattle.ak_image.specs.Scans.{IsScan}
use Rattle.ak_image.specs.Trees.{IsTreeOf}
use Rattle.ak_meta.specs.Contents.{Content, IsMeta}
use Rattle.ak_meta.specs.declared.meta.SeriesMeta.{SeriesMeta}
use Rattle.ak_volumes.specs.Ordinals.{Ordinals, IsLive}
use Rattle.ak_record.specs.Records.{frame_for, HasNewest}
use Rattle.ak_world.specs.Leaves.{Leaf}
use Rattle.ak_world.specs.Views.{View}

-- The scans of all series, from a number on.
abbrev pub AreScans : Seen → ℕ → List ℕ → ℕ → List SeriesMeta → List (List Leaf) → Type 0
AreScans seen lo fills series [] kept = kept ≡ []
AreScans seen lo fills series (known ∷ others) kept = (leaves : List Leaf) × (rest : List (List Leaf)) × (kept ≡ leaves ∷ rest)
    × IsScan seen series lo fills leaves × AreScans seen lo fills (suc series) others rest

-- Of each series, from a number on, the leaves that a scan finds are a chain, and its live blocks are the tree over them.
abbrev pub AreGrown : Ordinals → Seen → ℕ → List SeriesMeta → Type 0
AreGrown o seen series [] = Unit {0}
AreGrown o seen series (known ∷ others) =
    ((leaves : List Leaf) × IsScan seen series o.lo o.fills leaves × IsChain seen o.lo series known leaves × IsTreeOf o seen series known leaves)
    × AreGrown o seen (suc series) others

-- The live blocks are sound by a record: they stand in rows of whole groups, and those of each series are a chain of leaves and
-- the tree over it.
pub record AreSound (seen : Seen) (c : Content) : Type 0 where
  pub rows : AreRows seen (length c.series) c.ordinals.lo c.ordinals.fills
  pub series : AreGrown c.ordinals seen 0 c.series

-- A sound image: a gate is open, and behind each open gate there is a record with this size of a slot; the files of the
-- volumes that the newest record tells are there; and its live blocks are sound.
pub record IsSound (disk : Files) : Type 0 where
  pub number : ℕ
  pub content : Content
  pub rules_are : IsMeta content
  pub newest : HasNewest content.limits.slot (Some (frame_for number content)) disk
  pub volumes : HasVolumes content.limits.volumes content.limits.blocks disk
  pub blocks : AreSound (seen_in content.limits.volumes disk) content

-- An image stands for a view: its newest record is that of the view, and the leaves that a scan finds are the view's.
pub record StandsFor (view : View) (disk : Files) : Type 0 where
  pub rules_are : IsMeta view.content
  pub newest : HasNewest view.content.limits.slot (Some (frame_for view.number view.content)) disk
  pub scans : AreScans (seen_in view.content.limits.volumes disk) view.content.ordinals.lo view.content.ordinals.fills 0 view.content.series view.kept

-- Two images have the same file 0, the same sizes of files, and the same blocks at the addresses that are live by the newest
-- record.
pub record AreAlike (disk other : Files) : Type 0 where
  pub first : file_at disk 0 ≡ file_at other 0
  pub sizes : map length disk ≡ map length other
  pub live : (number : ℕ) (c : Content) → IsMeta c → HasNewest c.limits.slot (Some (frame_for number c)) disk
      → (a : ℕ) → IsLive c.ordinals a → seen_in c.limits.volumes disk a ≡ seen_in c.limits.volumes other a
