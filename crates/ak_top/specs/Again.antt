-- What one call leaves, and what the next one finds.
use Rattle.std.specs.Prelude.{ℕ, ◌≤◌, length}
use Rattle.ak_host.specs.Files.{Files}
use Rattle.ak_host.specs.Marks.{Mark, told_to}
use Rattle.ak_run.specs.Keeping.{Confirms}
use Rattle.ak_top.specs.Kept.{IsKept}
use Rattle.ak_world.specs.Views.{View}

-- A view is no older than the one that an earlier call opened, nor than any whose flush this call confirmed, at each port from
-- the first byte told.
pub record IsNoOlder (opening : View) (start mark : Mark) (disk : Files) (left : IsKept opening start mark disk) (view : View) : Type 0 where
  pub opened : opening.number ≤ view.number
  pub confirmed : (port : ℕ) → 1 ≤ port → Confirms port (length (told_to port left.since.tellings)) view.number left.all.replies
