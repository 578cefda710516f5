-- The record of a host in memory: from where it began, and call by call.
use Rattle.std.specs.Prelude.{◌≡◌, min, ℕ, false, List, [], ◌∷◌, length, replicate, slice_get}
use Rattle.ak_host.specs.Files.{with_item}
use Rattle.ak_memhost.specs.Heard.{heard_by}
use Rattle.ak_host.specs.Marks.{Mark, after_turn, after_reply, told_to}
use Rattle.ak_memhost.specs.Turns.{turn_or_done}
use Rattle.ak_memhost.specs.declared.heard.PortBytes.{PortBytes}
use Rattle.ak_memhost.specs.declared.mem_turn.MemTurn.{MemTurn}
use Rattle.ak_memhost.specs.Drive.{Drive, zero_cell, with_cell, with_settled}
use Rattle.ak_memhost.specs.declared.call.Call.{Call}
use Rattle.ak_memhost.specs.declared.call.Call.TheVariants.{Make, Read, Write, Sync, Turn, Reply, Failure}

-- what stands after some of the calls
pub record Stage : Type 0 where
  pub drive : Drive
  pub mark : Mark

-- no turn taken, and nothing told
abbrev pub start : Drive → Stage
start drive = record { drive = drive; mark = record { turns = []; tellings = [] } }

-- the files after one call more
abbrev pub drive_after : Drive → Call → Drive
drive_after drive (Make file blocks) = with_item drive file (replicate blocks zero_cell)
drive_after drive (Write file index block) = with_cell drive file index (record { block = block; synced = false })
drive_after drive (Sync file) = with_settled drive file
drive_after drive Read = drive
drive_after drive Turn = drive
drive_after drive (Reply port bytes) = drive
drive_after drive Failure = drive

-- the files after some calls
abbrev pub drive_after_all : Drive → List Call → Drive
drive_after_all drive [] = drive
drive_after_all drive (call ∷ calls) = drive_after_all (drive_after drive call) calls

module _ (turns : List MemTurn) where
  -- the mark after one call more
  abbrev pub mark_after : Mark → Call → Mark
  mark_after mark (Make file blocks) = mark
  mark_after mark (Write file index block) = mark
  mark_after mark (Sync file) = mark
  mark_after mark Read = mark
  mark_after mark Turn = after_turn mark (turn_or_done (slice_get turns (length mark.turns)))
  mark_after mark (Reply port bytes) = after_reply mark port bytes
  mark_after mark Failure = mark

  -- one call more
  abbrev pub step : Stage → Call → Stage
  step stage call = record { drive = drive_after stage.drive call; mark = mark_after stage.mark call }

  abbrev pub after : Stage → List Call → Stage
  after stage [] = stage
  after stage (call ∷ calls) = after (step stage call) calls

-- the files, the next turn and what was told are those after the calls so far
pub record Current (turns : List MemTurn) (files : Drive) (next : ℕ) (heard : List PortBytes) (stage : Stage) : Type 0 where
  pub files_are : files ≡ stage.drive
  pub next_is : next ≡ min (length stage.mark.turns) (length turns)
  pub heard_is : (port : ℕ) → heard_by port heard ≡ told_to port stage.mark.tellings
