-- What waits in a series of so many leaves.
use Rattle.std.specs.Prelude.{◌≡◌, ℕ, ◌*◌, ◌/◌, ◌%◌, ◌^◌, ◌≤◌, true, false, length, slice_index_or}
use Rattle.std.specs.List.{AllByRecursion}
use Rattle.ak_inner.specs.declared.reference.Ref.{Ref}
use Rattle.ak_summary.specs.Summaries.{IsBounded}
use Rattle.ak_levels.specs.Pending.{Lists, pending_at}

-- A reference that waits at a level: what it counts can be joined.
pub record IsTally (level : ℕ) (r : Ref) : Type 0 where
  pub some : 1 ≤ r.summary.count
  pub most : r.summary.count ≤ 2016 * 32 ^ level
  pub bounded : IsBounded r.summary

-- What waits in a series of so many leaves, which are no more than can ever be written: at each level no more than its digit in
-- base 32, each a tally; and a level of which a node was ever made has its places.
pub record AreLawful (leaves : ℕ) (v : Lists) : Type 0 where
  pub most : leaves ≤ 2 ^ 52
  pub few : (k : ℕ) → k ≤ 10 → length (pending_at v k) ≤ leaves / 32 ^ k % 32
  pub each : (k : ℕ) → k ≤ 10 → AllByRecursion (IsTally k) (pending_at v k)
  pub placed : (k : ℕ) → k ≤ 10 → 32 ^ k ≤ leaves → slice_index_or v.placed k false ≡ true
