use Rattle.std.proofs.Common.{◌≡◌, drop, None}
use Rattle.ak_http.proofs.Lengths.{with_lines}
use Rattle.ak_http.proofs.head.agreed_length.Given as goal

abbrev pub invariant-loop-header : goal.invariant-loop-header
invariant-loop-header l = with_lines l.head l.known (drop l.header-index l.headers) ≡ with_lines l.head None l.headers
