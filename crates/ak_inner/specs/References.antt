-- References, their bytes and their rules.
use Rattle.std.specs.Prelude.{ℕ, ◌-◌, ◌*◌, ◌^◌, ◌<◌, ◌≤◌, ℤ, pos, negsuc, ◌≤ℤ◌, List, [], ◌∷◌, ◌++◌}
use Rattle.std.specs.List.{AllByRecursion}
use Rattle.byteorder.specs.Endian.{little_bytes}
use Rattle.ak_bytes.specs.Fields.{signed_bytes}
use Rattle.ak_summary.specs.Summaries.{IsBounded, IsOrderly}
use Rattle.ak_inner.specs.declared.reference.Ref.{Ref}

-- the fields, in order
unfoldable pub ref_bytes : Ref → List ℕ
ref_bytes r = little_bytes 8 r.addr.0 ++ little_bytes 8 r.first_leaf.0 ++ little_bytes 8 r.summary.count ++ little_bytes 8 r.summary.begin ++ little_bytes 8 r.summary.end ++ signed_bytes 8 r.summary.first ++ signed_bytes 8 r.summary.last ++ signed_bytes 8 r.summary.min ++ little_bytes 8 r.summary.min_ts ++ signed_bytes 8 r.summary.max ++ little_bytes 8 r.summary.max_ts ++ signed_bytes 16 r.summary.sum

-- a signed number of so many bits, one of them its sign
pub record IsSigned (bits : ℕ) (z : ℤ) : Type 0 where
  pub low : negsuc (2 ^ (bits - 1) - 1) ≤ℤ z
  pub high : z ≤ℤ pos (2 ^ (bits - 1) - 1)

-- each number in its width
pub record FitsRef (r : Ref) : Type 0 where
  pub addr : r.addr.0 < 2 ^ 64
  pub first_leaf : r.first_leaf.0 < 2 ^ 64
  pub count : r.summary.count < 2 ^ 64
  pub begin : r.summary.begin < 2 ^ 64
  pub end : r.summary.end < 2 ^ 64
  pub first : IsSigned 64 r.summary.first
  pub last : IsSigned 64 r.summary.last
  pub min : IsSigned 64 r.summary.min
  pub min_ts : r.summary.min_ts < 2 ^ 64
  pub max : IsSigned 64 r.summary.max
  pub max_ts : r.summary.max_ts < 2 ^ 64
  pub sum : IsSigned 128 r.summary.sum

-- The rules of a reference of a node of this level: at least one point, and no more than a child can hold, times and
-- values in order, and a sum of so many values between the least and the greatest.
pub record IsRef (level : ℕ) (r : Ref) : Type 0 where
  pub some : 1 ≤ r.summary.count
  pub most : r.summary.count ≤ 2016 * 32 ^ (level - 1)
  pub orderly : IsOrderly r.summary
  pub bounded : IsBounded r.summary

-- The first begins no earlier than this time, and none before the one before it ends.
abbrev pub FollowFrom : ℕ → List Ref → Type 0
FollowFrom ts [] = Unit {0}
FollowFrom ts (r ∷ rs) = (ts ≤ r.summary.begin) × FollowFrom r.summary.end rs

-- the rules of the references of a node of this level
pub record AreRefs (level : ℕ) (rs : List Ref) : Type 0 where
  pub each : AllByRecursion (IsRef level) rs
  pub order : FollowFrom 0 rs
