use Rattle.std.proofs.Common.{map, take}
use Rattle.ak_run.proofs.Valued.{Stands}
use Rattle.ak_run.proofs.values.read_values.Given as goal

abbrev pub invariant-loop-text : goal.invariant-loop-text
invariant-loop-text l = record { stands : Stands l.scale (map (λ v. v.bytes) (take l.text-index l.texts)) l.in_range l.values }
