use Rattle.std.proofs.Common.{◌≡◌, take, false}
use Rattle.std.specs.List.{list_any}
use Rattle.httparse.specs.Spans.{span_bytes}
use Rattle.ak_http.specs.Head.{same_name}
use Rattle.ak_http.proofs.head.has_name.Given as goal

abbrev pub invariant-loop-header : goal.invariant-loop-header
invariant-loop-header l = list_any (λ h. same_name (span_bytes l.head h.name) l.name) (take l.header-index l.headers) ≡ false
