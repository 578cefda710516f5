use Rattle.std.proofs.Common.{◌≤◌, ◌↔◌, drop}
use Rattle.ak_meta.specs.Contents.{leaves_of, room_of}
use Rattle.ak_meta.proofs.reading.has_room.Given as goal

abbrev pub invariant-loop-s : goal.invariant-loop-s
invariant-loop-s l = (leaves_of l.series ≤ room_of l.volumes) ↔ (leaves_of (drop l.s-index l.series) ≤ l.left)
