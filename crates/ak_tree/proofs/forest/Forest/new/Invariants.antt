use Rattle.ak_tree.proofs.AddingSeries.{AreFree}
use Rattle.ak_tree.proofs.forest.Forest.new.Given as goal

abbrev pub invariant-loop : goal.invariant-loop
invariant-loop l = AreFree l.frames.items l.counter
