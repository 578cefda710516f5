-- What a stop leaves at a moment of a run.
use Rattle.std.specs.Prelude.{ℕ, ◌≡◌, ◌+◌, ◌-◌, ◌<◌, ◌≤◌, List, length, take}
use Rattle.ak_host.specs.Files.{Files}
use Rattle.ak_host.specs.Marks.{Mark, Taken, told_to}
use Rattle.ak_host.specs.Moments.{HostState, LeavesNow}
use Rattle.ak_image.specs.Images.{IsSound, StandsFor}
use Rattle.ak_run.specs.Keeping.{Confirms}
use Rattle.ak_run.specs.Replies.{Reply}
use Rattle.ak_run.specs.Run.{World, world_of, RunsFrom}
use Rattle.ak_top.specs.Told.{Since}
use Rattle.ak_world.specs.Valid.{IsPrefix}
use Rattle.ak_world.specs.Views.{View, IsIn}
use Rattle.ak_world.specs.Worlds.{views_of}

-- The run of these turns leads to this world, and is told these replies.
pub record Leads (view : View) (turns : List Taken) : Type 0 where
  pub last : World
  pub replies : List Reply
  pub run : RunsFrom (world_of view) turns last replies

-- Where k turns were taken since, a stop leaves a sound disk that stands for a view.
pub record IsKept (opening : View) (start mark : Mark) (disk : Files) : Type 0 where
  pub since : Since start mark
  pub all : Leads opening since.turns
  pub before : Leads opening (take (length since.turns - 1) since.turns)
  pub view : View
  pub sound : IsSound disk
  pub stands : StandsFor view disk
  -- It is the opening view, or was taken in the k turns.
  pub taken : IsIn view (views_of all.last.content)
  -- Its number is at least that of the last view taken in the first k - 1 turns, less 1, and at least the opening view's.
  pub recent : before.last.content.last.number ≤ view.number + 1
  pub no_older : opening.number ≤ view.number
  -- It is no older than any view whose flush was confirmed, from the first byte told.
  pub confirmed : (port : ℕ) → 1 ≤ port → Confirms port (length (told_to port since.tellings)) view.number all.replies
  -- It holds for each series the live ones of the first leaves, whose points are a prefix of those accepted.
  pub prefixes : IsPrefix all.last.content.series view

-- At each moment from the barrier on, a stop leaves such a disk. Before it, no turn is taken, and a stop leaves a disk
-- that has P. Where the store was opened, it is no later than the end of the call.
pub record KeepsFrom (opening : View) (P : Files → Type 0) (opened : Type 0) (old new : HostState) : Type 0 where
  pub barrier : ℕ
  pub later : old.moment ≤ barrier
  pub within : opened → barrier ≤ new.moment
  pub turns_before : (t : ℕ) → old.moment ≤ t → t < barrier → t ≤ new.moment → (new.mark t).turns ≡ (old.mark old.moment).turns
  pub before : (t : ℕ) (disk : Files) → old.moment ≤ t → t < barrier → t ≤ new.moment → new.leaves t disk → P disk
  pub from : (t : ℕ) (disk : Files) → barrier ≤ t → t ≤ new.moment → new.leaves t disk → IsKept opening (old.mark old.moment) (new.mark t) disk

-- The call ends with the last view of the run alone.
pub record KeepsLast (opening : View) (start mark : Mark) (host : HostState) : Type 0 where
  pub since : Since start mark
  pub all : Leads opening since.turns
  pub left : (disk : Files) → LeavesNow host disk → StandsFor all.last.content.last disk
  pub sound : (disk : Files) → LeavesNow host disk → IsSound disk
