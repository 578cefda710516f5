use Rattle.std.proofs.Common.{◌≡◌, ◌+◌, drop}
use Rattle.ak_node.specs.Standing.{place_of}
use Rattle.ak_node.proofs.session.place.Given as goal

abbrev pub invariant-loop-at : goal.invariant-loop-at
invariant-loop-at l = place_of l.sessions l.port ≡ l.at + place_of (drop l.at l.sessions) l.port
