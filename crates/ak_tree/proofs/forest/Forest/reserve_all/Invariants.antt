use Rattle.std.proofs.Common.{◌≡◌, ◌≢◌, ℕ, ◌<◌, ◌≤◌, get_or, None}
use Rattle.ak_tree.specs.Standing.{HasPlaces, IsSameButPlaces, levels_at}
use Rattle.ak_tree.proofs.forest.Forest.reserve_all.Given as goal

abbrev pub invariant-loop-n : goal.invariant-loop-n
invariant-loop-n l = record {
  same : IsSameButPlaces l.fn.self l.self;
  places : (k : ℕ) → k < l.n → get_or l.self.frames k None ≢ None → HasPlaces l.self k;
  behind : (k : ℕ) → l.n ≤ k → levels_at l.self k ≡ levels_at l.fn.self k;
}
