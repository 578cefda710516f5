-- From what one call leaves to what the next one opens.
use Rattle.std.proofs.Common.{ℕ, ◌≤◌, List, length, arith}
use Rattle.ak_host.specs.Files.{Files}
use Rattle.ak_host.specs.Marks.{Mark, told_to}
use Rattle.ak_image.specs.Images.{IsSound, StandsFor}
use Rattle.ak_run.proofs.Confirming.{confirms_more}
use Rattle.ak_top.specs.Again.{IsNoOlder}
use Rattle.ak_top.specs.Commands.{IsRun, OpensFiles}
use Rattle.ak_top.specs.Kept.{IsKept}
use Rattle.ak_top.proofs.Words.{run_or_none}
use Rattle.ak_world.specs.Views.{View}

pub opens_run : (words : List (List ℕ)) (files : Files) (view : View) → IsRun words → IsSound files → StandsFor view files → OpensFiles words files view
opens_run words files view run sound stands = record { sound = λ again. sound; run = λ again. stands; scratch = λ none. absurd (run_or_none words run none) }

pub opens_kept : (words : List (List ℕ)) (opening : View) (start mark : Mark) (files : Files) → IsRun words → (left : IsKept opening start mark files) → OpensFiles words files left.view
opens_kept words opening start mark files run left = opens_run words files left.view run left.sound left.stands

-- what is no older than what a call left is no older than what that call confirmed
pub no_older_than_left : (opening : View) (start mark : Mark) (files : Files) (left : IsKept opening start mark files) (view : View) → left.view.number ≤ view.number
    → IsNoOlder opening start mark files left view
no_older_than_left opening start mark files left view later = record {
  opened = omega (arith, left.no_older, later);
  confirmed = λ port h. confirms_more port (length (told_to port left.since.tellings)) left.view.number view.number left.all.replies later (left.confirmed port h);
}
