use Rattle.ak_meta.specs.Contents.{IsMeta}
use Rattle.ak_meta.proofs.tests.leaf_32_has_a_node.Given as goal

abbrev pub invariant-loop-leaf : goal.invariant-loop-leaf
invariant-loop-leaf g l = IsMeta l.meta
