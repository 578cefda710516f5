use Rattle.std.proofs.Common.{◌≡◌, ◌≤◌, ◌++◌, drop, length, vec_capacity}
use Rattle.ak_leaf.specs.Spelling.{start, after_all, spelling}
use Rattle.ak_leaf.proofs.Spellings.{MayFollow}
use Rattle.ak_leaf.proofs.points.get_points.Given as goal

abbrev pub invariant-loop : goal.invariant-loop
invariant-loop l = record {
  count : length l.points.items ≡ l.counter;
  room : vec_capacity l.fn.points ≤ vec_capacity l.points;
  within : l.at ≤ length l.from;
  before : l.before ≡ after_all start l.points.items;
  follow : MayFollow start l.points.items;
  spelled : l.from ≡ spelling l.points.items ++ drop l.at l.from;
}
