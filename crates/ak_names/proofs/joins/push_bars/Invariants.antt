use Rattle.std.proofs.Common.{◌≡◌, ◌++◌, drop}
use Rattle.ak_names.specs.Tracks.{bars}
use Rattle.ak_names.proofs.joins.push_bars.Given as goal

abbrev pub invariant-loop-m : goal.invariant-loop-m
invariant-loop-m l = l.name ++ bars (drop l.m-index l.metrics) ≡ l.fn.name ++ bars l.metrics
