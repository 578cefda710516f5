use Rattle.std.proofs.Common.{length, ◌-◌, ◌≡◌, ◌%◌, map, drop, string_bytes}
use Rattle.ak_words.specs.Words.{behind}
use Rattle.ak_words.specs.Pairs.{pairs_of}
use Rattle.ak_words.proofs.options.find.Given as goal

abbrev pub invariant-loop-at : goal.invariant-loop-at
invariant-loop-at l = record {
  even : l.at % 2 ≡ 0;
  same : behind l.name (pairs_of (map string_bytes l.words)) ≡ behind l.name (pairs_of (drop l.at (map string_bytes l.words)));
}

abbrev pub decreases-loop-at : goal.decreases-loop-at
decreases-loop-at l = length l.words - l.at
