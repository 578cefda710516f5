-- The files of a store that was just made, and those that are left alone.
use Rattle.std.specs.Prelude.{ℕ, ◌≡◌, ◌+◌, ◌*◌, ◌≤◌, List, ◌∷◌, ◌++◌, drop, replicate, Some}
use Rattle.ak_base.specs.declared.limits.Limits.{Limits}
use Rattle.ak_host.specs.Files.{Files, file_at, zero_blocks}
use Rattle.ak_host.specs.Moments.{HostState, IsStable, LeavesNow, DiskPasses}
use Rattle.ak_meta.specs.Leaves.{first_content}
use Rattle.ak_record.specs.Records.{frame_for, HasNewest}

-- the sizes of the files where a store is made: file 0 with two slots, then the volumes. Files behind them stay.
abbrev pub made_sizes : Limits → List ℕ → List ℕ
made_sizes limits old = (2 + 2 * limits.slot) ∷ (replicate limits.volumes limits.blocks ++ drop (1 + limits.volumes) old)

-- The files and their sizes are as they were, and at each moment a stop leaves what it might have left before.
pub record KeepsDisk (old new : HostState) : Type 0 where
  pub sizes : new.sizes ≡ old.sizes
  pub files : new.files ≡ old.files
  pub moments : DiskPasses (LeavesNow old) old new

-- Each volume has its blocks, which are all zeros, and so it has whatever a stop leaves.
pub record AreEmpty (limits : Limits) (host : HostState) : Type 0 where
  pub zeros : (file : ℕ) → 1 ≤ file → file ≤ limits.volumes → file_at host.files file ≡ zero_blocks limits.blocks
  pub stable : (file : ℕ) → 1 ≤ file → file ≤ limits.volumes → IsStable file host

-- a stop leaves the record of the first view, and volumes of zeros
pub record IsMade (limits : Limits) (disk : Files) : Type 0 where
  pub newest : HasNewest limits.slot (Some (frame_for 1 (first_content limits))) disk
  pub zeros : (file : ℕ) → 1 ≤ file → file ≤ limits.volumes → file_at disk file ≡ zero_blocks limits.blocks
