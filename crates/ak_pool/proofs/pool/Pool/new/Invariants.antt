use Rattle.std.proofs.Common.{◌≡◌, ◌≤◌, length}
use Rattle.ak_pool.specs.Links.{none, first_of, AreOlder}
use Rattle.ak_pool.proofs.Chained.{countdown}
use Rattle.ak_pool.proofs.pool.Pool.new.Given as goal

abbrev pub invariant-loop-frame : goal.invariant-loop-frame
invariant-loop-frame l = record {
  slots : length l.slots.items ≡ l.frame;
  links : length l.links.items ≡ l.frame;
  free : l.free ≡ first_of (countdown l.frame);
  chained : AreOlder l.links.items (countdown l.frame);
  few : l.frame ≤ none;
}
