-- What stands when a store is opened or made.
use Rattle.std.specs.Prelude.{ℕ, ◌≡◌, ◌⊎◌, ◌+◌, ◌*◌, List, length, Some}
use Rattle.ak_base.specs.declared.limits.Limits.{Limits}
use Rattle.ak_base.specs.declared.stop.Stop.{Stop}
use Rattle.ak_base.specs.declared.stop.Stop.TheVariants.{Usage, Damaged, Disk, Port, Memory, Budget, Worn, NoStore, Exists}
use Rattle.ak_checkpoint.specs.Saving.{Saving}
use Rattle.ak_gate.specs.Slots.{newest}
use Rattle.ak_host.specs.Causes.{Rose}
use Rattle.ak_host.specs.Files.{Files, file_at}
use Rattle.ak_host.specs.Moments.{HostState}
use Rattle.ak_image.specs.Blocks.{seen_in}
use Rattle.ak_image.specs.Images.{IsSound, StandsFor}
use Rattle.ak_image.specs.Named.{IsDamagedNode}
use Rattle.ak_levels.specs.Pending.{Lists}
use Rattle.ak_meta.specs.Contents.{Content, IsMeta, names_of}
use Rattle.ak_node.specs.declared.keeper.Keeper.{Keeper}
use Rattle.ak_record.specs.Records.{frame_for}
use Rattle.ak_record.specs.Stops.{IsNoStore, IsDamaged}
use Rattle.ak_tree.specs.Standing.{Keeps}
use Rattle.ak_world.specs.Valid.{AreOpenable}
use Rattle.ak_world.specs.Views.{View, first_view}
use Rattle.ak_world.specs.Worlds.{world_of}

-- a stop leaves a sound image that stands for the first view
abbrev pub IsFirst : Limits → Files → Type 0
IsFirst limits disk = IsSound disk × StandsFor (first_view limits) disk

-- The newest record of the disk has this number and spells this content. What stands behind the other gate may be anything.
pub record IsFoundRecord (number : ℕ) (c : Content) (disk : Files) : Type 0 where
  pub rules_are : IsMeta c
  pub blocks : length (file_at disk 0) ≡ 2 + 2 * c.limits.slot
  pub newest_is : newest c.limits.slot disk ≡ Some (frame_for number c)

-- a live block doesn't spell the node that the record which was found names there
abbrev pub IsDamagedByFound : HostState → HostState → ℕ → ℕ → Type 0
IsDamagedByFound old new file block = (number : ℕ) × (found : Content) × IsFoundRecord number found old.files × IsDamagedNode (seen_in found.ordinals.volumes new.files) found.ordinals found file block

-- Why the newest view can't be opened: there is no store; an open gate has no record behind it, the file of a volume is
-- missing or short, or a node is damaged; a call of the disk failed; there is no memory.
abbrev pub IsNodeOpenStop : Type 0 → HostState → HostState → Stop → Type 0
IsNodeOpenStop told old new NoStore = told → IsNoStore old.files
IsNodeOpenStop told old new (Damaged file block) = told → IsDamaged file block old.files ⊎ IsDamagedByFound old new file block
IsNodeOpenStop told old new Disk = Rose old.disk_faults new.disk_faults
IsNodeOpenStop told old new Memory = Unit {0}
IsNodeOpenStop told old new Usage = ⊥
IsNodeOpenStop told old new Port = ⊥
IsNodeOpenStop told old new Budget = ⊥
IsNodeOpenStop told old new (Worn ordinal fill number) = ⊥
IsNodeOpenStop told old new Exists = ⊥

-- The store keeps what a view with this record held, this waits of its series, and its last checkpoint is this.
pub record KeepsOpened (meta : Content) (levels : List Lists) (check : Saving) (keeper : Keeper) : Type 0 where
  pub meta_is : keeper.forest.meta ≡ meta
  pub levels_are : keeper.forest.levels ≡ levels
  pub check_is : keeper.forest.check ≡ check
  pub names : keeper.names ≡ names_of meta.series
  pub keeps : (view : View) → view.content ≡ meta → view.number ≡ check.number → AreOpenable meta.ordinals.lo meta.series view.kept
      → Keeps (world_of view) keeper.forest
