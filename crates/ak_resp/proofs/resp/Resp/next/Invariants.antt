use Rattle.std.proofs.Common.{◌≡◌, ◌≤◌, ◌-◌, [], length, drop, None}
use Rattle.ak_resp.specs.Rows.{Reads}
use Rattle.ak_resp.proofs.resp.Resp.next.Given as goal

abbrev pub invariant-loop-at : goal.invariant-loop-at
invariant-loop-at l = record {
  begin : l.fn.at ≤ l.at;
  within : l.at ≤ length l.piece;
  sound : l.self.refusal ≡ None;
  reads : Reads l.fn.self l.self (drop l.fn.at l.piece) (drop l.at l.piece) [];
}

abbrev pub decreases-loop-at : goal.decreases-loop-at
decreases-loop-at l = length l.piece - l.at
