-- The moments of a host in memory: one before each call, one within it, and one after all.
use Rattle.std.specs.Prelude.{◌≡◌, ◌⊎◌, ℕ, zero, suc, ◌+◌, List, [], ◌∷◌, ◌++◌, All, length, if◌then◌else◌, ◌==◌}
use Rattle.ak_host.specs.Causes.{Rose}
use Rattle.ak_host.specs.Files.{Files, IsBlock, zero_block}
use Rattle.ak_host.specs.Marks.{Mark}
use Rattle.ak_host.specs.Moments.{HostState}
use Rattle.ak_memhost.specs.Drive.{Drive, IsImage, contents, sizes}
use Rattle.ak_memhost.specs.Record.{Stage, step, after}
use Rattle.ak_memhost.specs.declared.call.Call.{Call}
use Rattle.ak_memhost.specs.declared.call.Call.TheVariants.{Make, Read, Write, Sync, Turn, Reply, Failure}
use Rattle.ak_memhost.specs.declared.mem_turn.MemTurn.{MemTurn}

-- a moment: the mark, and the drives of which a stop leaves an image
pub record Instant : Type 0 where
  pub mark : Mark
  pub drives : List Drive

-- between two calls
abbrev pub at_rest : Stage → Instant
at_rest stage = record { mark = stage.mark; drives = stage.drive ∷ [] }

-- an image of one of the drives
abbrev pub IsLeft : List Drive → Files → Type 0
IsLeft [] disk = ⊥
IsLeft (drive ∷ drives) disk = IsImage drive disk ⊎ IsLeft drives disk

abbrev pub moments_of : List Call → ℕ
moments_of [] = 0
moments_of (call ∷ calls) = suc (suc (moments_of calls))

-- a failed call was recorded as one, or refused for want of memory and not recorded
abbrev pub FailsAt : List Call → List Call → ℕ → ℕ → Type 0
FailsAt calls later refused refused' = ((later ≡ calls ++ Failure ∷ []) × (refused' ≡ refused)) ⊎ ((later ≡ calls) × Rose refused refused')

abbrev pub reads_in : List Call → ℕ
reads_in [] = 0
reads_in (Read ∷ calls) = reads_in calls + 1
reads_in (call ∷ calls) = reads_in calls

abbrev pub writes_in : List Call → ℕ
writes_in [] = 0
writes_in (Write file index block ∷ calls) = writes_in calls + 1
writes_in (call ∷ calls) = writes_in calls

-- how many bytes a call told a port
abbrev pub told_by : ℕ → Call → ℕ
told_by port (Reply own bytes) = if own == port then length bytes else 0
told_by port (Make file blocks) = 0
told_by port Read = 0
told_by port (Write file index block) = 0
told_by port (Sync file) = 0
told_by port Turn = 0
told_by port Failure = 0

abbrev pub told_in : ℕ → List Call → ℕ
told_in port [] = 0
told_in port (call ∷ calls) = told_by port call + told_in port calls

-- the block that a call wrote, and a zero block where it wrote none
abbrev pub block_of : Call → List ℕ
block_of (Write file index block) = block
block_of (Make file blocks) = zero_block
block_of Read = zero_block
block_of (Sync file) = zero_block
block_of Turn = zero_block
block_of (Reply port bytes) = zero_block
block_of Failure = zero_block

-- each write wrote 4096 bytes
abbrev pub WriteBlocks : List Call → Type 0
WriteBlocks calls = All (λ call. IsBlock (block_of call)) calls

module _ (turns : List MemTurn) where
  -- within a call: a write counts as done, a sync as not made, a `make` as either, and the mark is that before
  abbrev pub within : Stage → Call → Instant
  within stage (Make file blocks) = record { mark = stage.mark; drives = stage.drive ∷ (step turns stage (Make file blocks)).drive ∷ [] }
  within stage (Write file index block) = record { mark = stage.mark; drives = (step turns stage (Write file index block)).drive ∷ [] }
  within stage call = at_rest stage

  abbrev pub instant_at : Stage → List Call → ℕ → Instant
  instant_at stage [] t = at_rest stage
  instant_at stage (call ∷ calls) zero = at_rest stage
  instant_at stage (call ∷ calls) (suc zero) = within stage call
  instant_at stage (call ∷ calls) (suc (suc t)) = instant_at (step turns stage call) calls t

  -- what clauses see of a host with this record
  abbrev pub state_of : Stage → List Call → ℕ → ℕ → HostState
  state_of begun calls disk_faults port_faults = record {
    sizes = sizes (after turns begun calls).drive;
    files = contents (after turns begun calls).drive;
    moment = moments_of calls;
    mark = λ t. (instant_at begun calls t).mark;
    leaves = λ t disk. IsLeft (instant_at begun calls t).drives disk;
    disk_faults = disk_faults;
    port_faults = port_faults;
    reads = reads_in calls;
    writes = writes_in calls;
  }
