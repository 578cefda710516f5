-- What stands told at a moment of a run, and what each status says of it.
use Rattle.std.specs.Prelude.{ℕ, ◌≡◌, ◌⊎◌, ◌-◌, ◌^◌, ◌≤◌, ◌++◌, ◌∷◌, [], List, length, take, true, false}
use Rattle.std.specs.List.{AllByRecursion}
use Rattle.ak_base.specs.declared.stop.Stop.{Stop}
use Rattle.ak_base.specs.Stops.{stop_text, status_of}
use Rattle.ak_host.specs.Marks.{Mark, Taken, piece, ended, idle, done, Telling, told_to}
use Rattle.ak_node.specs.Calls.{Begins}
use Rattle.ak_run.specs.Replies.{Reply}
use Rattle.ak_run.specs.Run.{World, world_of, RunsFrom, AreAnswers}
use Rattle.ak_tree.specs.Stops.{IsWornBy}
use Rattle.ak_world.specs.Views.{View}

-- the turns and tellings since a mark
pub record Since (start mark : Mark) : Type 0 where
  pub turns : List Taken
  pub tellings : List Telling
  pub turns_are : mark.turns ≡ start.turns ++ turns
  pub tellings_are : mark.tellings ≡ start.tellings ++ tellings

-- what a port was told stands between these answers
pub record IsBetween (least most told : List ℕ) : Type 0 where
  pub at_least : Begins least told
  pub at_most : Begins told most

-- Where k turns were taken since, what each session's port was told begins with the answers to the first k - 1 turns,
-- and the answers to all k begin with it.
pub record IsAnswered (view : View) (start mark : Mark) : Type 0 where
  pub since : Since start mark
  pub ports : (port : ℕ) → 1 ≤ port → (least : List ℕ) × (most : List ℕ)
      × AreAnswers view (take (length since.turns - 1) since.turns) port least × AreAnswers view since.turns port most
      × IsBetween least most (told_to port since.tellings)

-- each turn since is answered in full
pub record IsComplete (view : View) (start mark : Mark) : Type 0 where
  pub since : Since start mark
  pub ports : (port : ℕ) → 1 ≤ port → AreAnswers view since.turns port (told_to port since.tellings)

abbrev pub IsDone : Taken → Type 0
IsDone (piece port bytes) = ⊥
IsDone (ended port) = ⊥
IsDone idle = ⊥
IsDone done = Unit {0}

abbrev pub NoneDone : List Taken → Type 0
NoneDone turns = AllByRecursion (λ turn. ¬ (IsDone turn)) turns

-- Each turn since is answered in full, and the last of them, and no other, is `Done`.
pub record EndsDone (view : View) (start mark : Mark) : Type 0 where
  pub complete : IsComplete view start mark
  pub others : List Taken
  pub turns_are : complete.since.turns ≡ others ++ done ∷ []
  pub none_done : NoneDone others

-- all 2 ^ 32 turns were taken since, and none is `Done`
pub record AreSpent (start mark : Mark) : Type 0 where
  pub since : Since start mark
  pub count : length since.turns ≡ 2 ^ 32
  pub none_done : NoneDone since.turns

-- The turns since have worn the store.
pub record IsWorn (view : View) (start mark : Mark) : Type 0 where
  pub since : Since start mark
  pub last : World
  pub replies : List Reply
  pub run : RunsFrom (world_of view) since.turns last replies
  pub worn : last.content.worn ≡ true

-- The turns since have worn the store, and the stop tells so. It was the last of them: without it the store isn't worn.
pub record HasWorn (view : View) (start mark : Mark) (stop : Stop) : Type 0 where
  pub is : IsWorn view start mark
  pub by : IsWornBy is.last.content stop
  pub by_the_last : (before : World) (replies : List Reply)
      → RunsFrom (world_of view) (take (length is.since.turns - 1) is.since.turns) before replies → before.content.worn ≡ false

-- the console was told nothing so far
pub record IsQuiet (view : View) (start mark : Mark) : Type 0 where
  pub answered : IsAnswered view start mark
  pub console : told_to 0 answered.since.tellings ≡ []

-- the line of the console for a stop
abbrev pub line_of : Stop → List ℕ
line_of stop = stop_text stop ++ 10 ∷ []

-- nothing, or the line of the status
abbrev pub IsLine : ℕ → List ℕ → Type 0
IsLine status told = (told ≡ []) ⊎ ((stop : Stop) × (status_of stop ≡ status) × (told ≡ line_of stop))

-- at a moment of a call that ends with this status
pub record IsTold (status : ℕ) (view : View) (start mark : Mark) : Type 0 where
  pub answered : IsAnswered view start mark
  pub console : IsLine status (told_to 0 answered.since.tellings)
