use Rattle.std.proofs.Common.{ℕ, ◌<◌, ◌≤◌, slice_index}
use Rattle.ak_record.proofs.volumes.first_short.Given as goal

abbrev pub invariant-loop-file : goal.invariant-loop-file
invariant-loop-file g l = (file : ℕ) → 1 ≤ file → file < l.file → l.fn.limits.blocks ≤ slice_index (g.D.Outside.state l.fn.disk).sizes file
