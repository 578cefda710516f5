-- What a disk holds of a store, and what a stop leaves of it.
use Rattle.std.specs.Prelude.{ℕ, ◌≡◌, ◌≢◌, ◌≤◌, ◌⊎◌, List, Some}
use Rattle.ak_host.specs.Files.{Files, file_at}
use Rattle.ak_host.specs.Moments.{HostState, LeavesNow}
use Rattle.ak_image.specs.Blocks.{seen_in, HasVolumes}
use Rattle.ak_image.specs.Images.{IsSound, StandsFor}
use Rattle.ak_image.specs.Laid.{IsLaid}
use Rattle.ak_image.specs.Planted.{ArePlanted}
use Rattle.ak_levels.specs.Pending.{Lists}
use Rattle.ak_meta.specs.Contents.{Content, IsMeta}
use Rattle.ak_record.specs.Records.{frame_for, HasNewest}
use Rattle.ak_volumes.specs.Ordinals.{IsLive}
use Rattle.ak_world.specs.Leaves.{Leaf}
use Rattle.ak_world.specs.Views.{View, IsIn}
use Rattle.ak_world.specs.Worlds.{World, views_of}

-- A stop leaves the record of this view, with its live blocks as they read. Of the volumes only this file may differ from
-- what a read gives.
pub record IsLeftOf (last : View) (file : ℕ) (files disk : Files) : Type 0 where
  pub newest : HasNewest last.content.limits.slot (Some (frame_for last.number last.content)) disk
  pub volumes : HasVolumes last.content.limits.volumes last.content.limits.blocks disk
  pub same : (a : ℕ) → IsLive last.content.ordinals a → seen_in last.content.limits.volumes disk a ≡ seen_in last.content.limits.volumes files a
  pub still : (other : ℕ) → 1 ≤ other → other ≤ last.content.limits.volumes → other ≢ file → file_at disk other ≡ file_at files other

-- The disk holds this content with these leaves, as far as what waits in memory belongs to it, and whatever a stop leaves
-- stands for the last view. Since that view only this file was written.
pub record IsStored (last : View) (c : Content) (kept : List (List Leaf)) (bases : List ℕ) (levels : List Lists) (file : ℕ) (host : HostState) : Type 0 where
  pub rules_are : IsMeta last.content
  pub limits_are : last.content.limits ≡ c.limits
  pub laid : IsLaid (seen_in c.limits.volumes host.files) c kept
  pub planted : ArePlanted c.ordinals (seen_in c.limits.volumes host.files) 0 c.series kept bases levels
  pub saved : IsLaid (seen_in c.limits.volumes host.files) last.content last.kept
  pub left : (disk : Files) → LeavesNow host disk → IsLeftOf last file host.files disk

-- A stop leaves a sound image, which stands for a view of the next world that is no older than the last of this one.
pub record LeavesView (w next : World) (disk : Files) : Type 0 where
  pub view : View
  pub sound : IsSound disk
  pub stands : StandsFor view disk
  pub taken : IsIn view (views_of next)
  pub recent : w.last.number ≤ view.number

-- while a view is saved: a stop leaves the last one, or this
pub record LeavesSaved (last saved : View) (disk : Files) : Type 0 where
  pub sound : IsSound disk
  pub stands : StandsFor last disk ⊎ StandsFor saved disk
