use Rattle.std.proofs.Common.{◌≡◌, ◌-◌, ◌<◌, ◌^◌, ◌↔◌, ℕ}
use Rattle.ak_meta.specs.Contents.{rescue_at}
use Rattle.ak_meta.proofs.reading.are_rescues.Given as goal

abbrev pub invariant-loop-level : goal.invariant-loop-level
invariant-loop-level l = record {
  least : l.least ≡ 32 ^ l.level;
  below : (level : ℕ) → level < l.level → (rescue_at l.rescue level ≡ 2 ^ 64 - 1) ↔ (l.leaves < 32 ^ level);
}
