use Rattle.std.proofs.Common.{◌↔◌, drop}
use Rattle.std.specs.List.{AllByRecursion}
use Rattle.ak_run.specs.Asking.{IsMetricByte}
use Rattle.ak_run.proofs.queries.are_metric_bytes.Given as goal

abbrev pub invariant-loop-byte : goal.invariant-loop-byte
invariant-loop-byte l = record { same : AllByRecursion IsMetricByte l.text ↔ AllByRecursion IsMetricByte (drop l.byte-index l.text) }
