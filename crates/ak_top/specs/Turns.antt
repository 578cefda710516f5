-- Which turns a call took, and what one leaves that was refused, on any disk.
use Rattle.std.specs.Prelude.{ℕ, ◌≡◌, ◌⊎◌, ◌^◌, ◌≤◌, List, [], ◌∷◌, ◌++◌, length}
use Rattle.ak_base.specs.declared.stop.Stop.{Stop}
use Rattle.ak_base.specs.declared.stop.Stop.TheVariants.{Usage, Damaged, NoStore, Exists}
use Rattle.ak_host.specs.Files.{Files}
use Rattle.ak_host.specs.Marks.{Mark, Taken, done}
use Rattle.ak_host.specs.Moments.{HostState, LeavesNow, mark_now}
use Rattle.ak_top.specs.Told.{NoneDone}

-- no turn was taken
abbrev pub IsIdle : Mark → Mark → Type 0
IsIdle start mark = mark.turns ≡ start.turns

-- The last of these turns, and no other, is `Done`.
pub record AreDone (turns : List Taken) : Type 0 where
  pub others : List Taken
  pub turns_are : turns ≡ others ++ done ∷ []
  pub none_done : NoneDone others

-- they are all that a call takes, and none is `Done`
pub record AreAll (turns : List Taken) : Type 0 where
  pub count : length turns ≡ 2 ^ 32
  pub none_done : NoneDone turns

-- there is one at least
abbrev pub AreSome : List Taken → Type 0
AreSome turns = 1 ≤ length turns

-- the turns taken since are such
pub record TurnsSince (P : List Taken → Type 0) (start mark : Mark) : Type 0 where
  pub turns : List Taken
  pub turns_are : mark.turns ≡ start.turns ++ turns
  pub have : P turns

-- Nothing was served, and the disk is as it was: its files, their sizes, and what a stop leaves at each moment.
pub record IsUntouched (old new : HostState) : Type 0 where
  pub later : old.moment ≤ new.moment
  pub idle : IsIdle (mark_now old) (mark_now new)
  pub sizes : new.sizes ≡ old.sizes
  pub files : new.files ≡ old.files
  pub moments : (t : ℕ) (disk : Files) → old.moment ≤ t → t ≤ new.moment → new.leaves t disk → LeavesNow old disk

-- what is refused before anything is served: words that are no command, a store that isn't there, or one that is
abbrev pub IsRefusal : Stop → Type 0
IsRefusal s = (s ≡ Usage) ⊎ ((s ≡ NoStore) ⊎ (s ≡ Exists))

-- a block is damaged
abbrev pub IsDamage : Stop → Type 0
IsDamage s = (file : ℕ) × (block : ℕ) × (s ≡ Damaged file block)
