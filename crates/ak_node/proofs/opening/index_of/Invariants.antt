use Rattle.std.proofs.Common.{◌≡◌, take}
use Rattle.ak_meta.specs.Contents.{names_of}
use Rattle.ak_node.proofs.opening.index_of.Given as goal

abbrev pub invariant-loop-known : goal.invariant-loop-known
invariant-loop-known l = record {
  names : l.index ≡ names_of (take l.known-index l.all);
}
