use Rattle.std.proofs.Common.{◌≡◌, ◌++◌, take}
use Rattle.std.specs.List.{flat_map}
use Rattle.ak_run.specs.Replies.{row_text}
use Rattle.ak_run.proofs.rows.write_rows.Given as goal

abbrev pub invariant-loop-point : goal.invariant-loop-point
invariant-loop-point l = l.text ≡ l.initial.text ++ flat_map (row_text l.scale l.name) (take l.point-index l.points)
