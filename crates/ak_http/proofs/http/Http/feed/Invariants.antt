use Rattle.std.proofs.Common.{◌≡◌, ◌≤◌, ◌-◌, None, length}
use Rattle.ak_http.specs.Standing.{fault_of}
use Rattle.ak_http.proofs.Readers.{Reads}
use Rattle.ak_http.proofs.http.Http.feed.Given as goal

abbrev pub invariant-loop-at : goal.invariant-loop-at
invariant-loop-at l = record {
  begin : l.fn.at ≤ l.at;
  within : l.at ≤ length l.piece;
  sound : fault_of l.self ≡ None;
  reads : Reads l.fn.self l.self l.piece l.fn.at l.at;
}

abbrev pub decreases-loop-at : goal.decreases-loop-at
decreases-loop-at l = length l.piece - l.at
