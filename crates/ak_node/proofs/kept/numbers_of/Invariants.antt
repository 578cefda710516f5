use Rattle.std.proofs.Common.{◌≡◌, take}
use Rattle.ak_names.specs.Known.{AreNumbers, names_at}
use Rattle.ak_node.proofs.kept.numbers_of.Given as goal

abbrev pub invariant-loop-name : goal.invariant-loop-name
invariant-loop-name l = record {
  known : AreNumbers l.index l.numbers.items;
  names : names_at l.index l.numbers.items ≡ take l.name-index l.names;
}
