use Rattle.std.proofs.Common.{◌≡◌, ◌-◌, ◌+◌, ◌^◌, ◌≤◌, min, [], take, drop}
use Rattle.ak_meta.specs.Contents.{size_of}
use Rattle.ak_node.specs.Names.{late_known, ArePlaces}
use Rattle.ak_node.proofs.Looking.{grows}
use Rattle.ak_world.specs.Puts.{first_of}
use Rattle.ak_node.proofs.look.look_at.Given as goal

abbrev pub invariant-loop-at : goal.invariant-loop-at
invariant-loop-at l = record {
  late : first_of l.late (late_known l.forest l.index (drop l.at l.names) l.time) ≡ late_known l.forest l.index l.names l.time;
  need : min (l.need + grows l.index (take l.at l.names) (drop l.at l.names)) (2 ^ 64 - 1) ≡ min (16 + size_of l.forest.meta + grows l.index [] l.names) (2 ^ 64 - 1);
  small : l.need ≤ 2 ^ 64 - 1;
  places : ArePlaces l.places l.names l.index;
}
