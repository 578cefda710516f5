use Rattle.std.proofs.Common.{◌≡◌, ℕ, List, Option, None, Some, MatchOption, map, take, string_bytes}
use Rattle.ak_names.specs.Tracks.{tracked}
use Rattle.ak_names.specs.Groups.{AreGrouped}
use Rattle.ak_names.proofs.index.Index.tracks.Given as goal

abbrev pub invariant-loop-n : goal.invariant-loop-n
invariant-loop-n l = (keys : Option (List (List ℕ))) → MatchOption l.tags (keys ≡ None) (λ t. keys ≡ Some t.now)
    → AreGrouped (map (tracked l.of l.wheres keys) (map string_bytes (take l.n l.name-items))) (map string_bytes l.groups.names.keys) l.groups.tracks.items
