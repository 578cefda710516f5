use Rattle.std.proofs.Common.{length, ◌-◌, ◌≡◌, ◌%◌, ◌↔◌, map, drop, string_bytes}
use Rattle.ak_words.proofs.Rows.{AreNamed}
use Rattle.ak_words.proofs.options.are_named.Given as goal

abbrev pub invariant-loop-at : goal.invariant-loop-at
invariant-loop-at l = record {
  even : l.at % 2 ≡ 0;
  same : AreNamed (map string_bytes l.words) ↔ AreNamed (drop l.at (map string_bytes l.words));
}

abbrev pub decreases-loop-at : goal.decreases-loop-at
decreases-loop-at l = length l.words - l.at
