-- What the words ask for, and which view is opened then.
use Rattle.std.specs.Prelude.{ℕ, ◌≡◌, ◌⊎◌, List, []}
use Rattle.ak_base.specs.declared.limits.Limits.{Limits}
use Rattle.ak_host.specs.Files.{Files}
use Rattle.ak_host.specs.Moments.{HostState, LeavesNow}
use Rattle.ak_image.specs.Images.{IsSound, StandsFor}
use Rattle.ak_node.specs.Opening.{IsFirst}
use Rattle.ak_record.specs.Stops.{IsNoStore, IsTaken}
use Rattle.ak_world.specs.Views.{View, first_view}
use Rattle.ak_words.specs.Words.{Asks}
use Rattle.ak_words.specs.declared.job.Command.TheVariants.{Create, Run}

-- a store is served
abbrev pub IsRun : List (List ℕ) → Type 0
IsRun words = (dir : List ℕ) × Asks words Run dir

-- a store is made with these limits, and not served
abbrev pub Creates : List (List ℕ) → Limits → Type 0
Creates words limits = (dir : List ℕ) × Asks words (Create limits) dir

-- the limits of a store in memory
abbrev pub scratch_limits : Limits
scratch_limits = record { volumes = 2; blocks = 256; slot = 16; pool = 64; every = 16; scale = 0 }

-- With no words a store is made and served.
abbrev pub Makes : List (List ℕ) → Limits → Type 0
Makes words limits = Creates words limits ⊎ ((words ≡ []) × (limits ≡ scratch_limits))

-- turns are taken
abbrev pub Serves : List (List ℕ) → Type 0
Serves words = IsRun words ⊎ (words ≡ [])

-- The opening view over these files: for `run` that for which they, which are sound, stand; with no words the first view of
-- the store that is made.
pub record OpensFiles (words : List (List ℕ)) (files : Files) (view : View) : Type 0 where
  pub sound : IsRun words → IsSound files
  pub run : IsRun words → StandsFor view files
  pub scratch : words ≡ [] → view ≡ first_view scratch_limits

-- the opening view over the files as they read
abbrev pub Opens : List (List ℕ) → HostState → View → Type 0
Opens words host view = OpensFiles words host.files view

-- no disk that a stop may leave has a store
abbrev pub AreFree : HostState → Type 0
AreFree host = (disk : Files) → LeavesNow host disk → ¬ (IsTaken disk)

-- while a store is made a stop leaves no store, or a sound disk that stands for the first view
abbrev pub IsMaking : Limits → Files → Type 0
IsMaking limits disk = IsNoStore disk ⊎ IsFirst limits disk

-- what a stop leaves until the store is open: for `run` what it might have left before, with no words what it leaves
-- while the store is made
pub record LeavesBefore (words : List (List ℕ)) (host : HostState) (disk : Files) : Type 0 where
  pub run : IsRun words → LeavesNow host disk
  pub scratch : words ≡ [] → AreFree host → IsMaking scratch_limits disk
