-- The summary of a list of points.
use Rattle.std.specs.Prelude.{◌≡◌, ◌<ℤ◌, min, ℕ, ◌+◌, ◌^◌, ◌<◌, ◌≤◌, ℤ, pos, ◌+ℤ◌, ◌*ℤ◌, ◌≤ℤ◌, List, [], ◌∷◌, length, int_lt, if◌then◌else◌}
use Rattle.ak_base.specs.declared.point.Point.{Point}
use Rattle.std.specs.List.{AllByRecursion}
use Rattle.ak_summary.specs.Order.{AnyByRecursion}
use Rattle.ak_summary.specs.declared.summary.Summary.{Summary}

-- the first and the last point
abbrev pub IsFirst : List Point → ℕ → ℤ → Type 0
IsFirst [] t v = ⊥
IsFirst (p ∷ ps) t v = (t ≡ p.ts) × (v ≡ p.value)

abbrev pub IsLast : List Point → ℕ → ℤ → Type 0
IsLast [] t v = ⊥
IsLast (p ∷ []) t v = (t ≡ p.ts) × (v ≡ p.value)
IsLast (p ∷ q ∷ ps) t v = IsLast (q ∷ ps) t v

abbrev pub value_sum : List Point → ℤ
value_sum [] = pos 0
value_sum (p ∷ ps) = p.value +ℤ value_sum ps

-- the least value, and the earliest time at which it stands
pub record IsLeast (ps : List Point) (t : ℕ) (v : ℤ) : Type 0 where
  pub stands : AnyByRecursion (λ p. (p.ts ≡ t) × (p.value ≡ v)) ps
  pub least : AllByRecursion (λ p. v ≤ℤ p.value) ps
  pub earliest : AllByRecursion (λ p. p.value ≡ v → t ≤ p.ts) ps

-- the greatest value, and the earliest time at which it stands
pub record IsGreatest (ps : List Point) (t : ℕ) (v : ℤ) : Type 0 where
  pub stands : AnyByRecursion (λ p. (p.ts ≡ t) × (p.value ≡ v)) ps
  pub greatest : AllByRecursion (λ p. p.value ≤ℤ v) ps
  pub earliest : AllByRecursion (λ p. p.value ≡ v → t ≤ p.ts) ps

-- the summary of these points
pub record IsSummary (ps : List Point) (s : Summary) : Type 0 where
  pub count : s.count ≡ length ps
  pub begins : IsFirst ps s.begin s.first
  pub ends : IsLast ps s.end s.last
  pub low : IsLeast ps s.min_ts s.min
  pub high : IsGreatest ps s.max_ts s.max
  pub total : s.sum ≡ value_sum ps

-- a sum from count * min to count * max
pub record IsBounded (s : Summary) : Type 0 where
  pub low : (pos s.count *ℤ s.min) ≤ℤ s.sum
  pub high : s.sum ≤ℤ (pos s.count *ℤ s.max)

-- both ends in order, the least and the greatest value within them, and the first and the last value between these
pub record IsOrderly (s : Summary) : Type 0 where
  pub ends : s.begin ≤ s.end
  pub min_from : s.begin ≤ s.min_ts
  pub min_to : s.min_ts ≤ s.end
  pub max_from : s.begin ≤ s.max_ts
  pub max_to : s.max_ts ≤ s.end
  pub first_least : s.min ≤ℤ s.first
  pub first_most : s.first ≤ℤ s.max
  pub last_least : s.min ≤ℤ s.last
  pub last_most : s.last ≤ℤ s.max

-- which two can be joined
pub record CanJoin (a b : Summary) : Type 0 where
  pub counts : a.count + b.count < 2 ^ 63
  pub earlier : IsBounded a
  pub later : IsBounded b

-- the lesser of two values with its time, and the greater, the earlier on a tie
abbrev pub lesser_of : ℕ → ℤ → ℕ → ℤ → Point
lesser_of t v t' v' = if int_lt v' v then record { ts = t'; value = v' } else record { ts = t; value = v }

abbrev pub greater_of : ℕ → ℤ → ℕ → ℤ → Point
greater_of t v t' v' = if int_lt v v' then record { ts = t'; value = v' } else record { ts = t; value = v }

-- the fields of a join
abbrev pub joined : Summary → Summary → Summary
joined a b = record {
  count = a.count + b.count;
  begin = a.begin;
  end = b.end;
  first = a.first;
  last = b.last;
  min = (lesser_of a.min_ts a.min b.min_ts b.min).value;
  min_ts = (lesser_of a.min_ts a.min b.min_ts b.min).ts;
  max = (greater_of a.max_ts a.max b.max_ts b.max).value;
  max_ts = (greater_of a.max_ts a.max b.max_ts b.max).ts;
  sum = a.sum +ℤ b.sum;
}

-- a time and a value are these
abbrev pub Are : ℕ → ℤ → ℕ → ℤ → Type 0
Are t v t' v' = (t ≡ t') × (v ≡ v')

-- The fields of a merge: of two that begin together the first's, of two that end together the second's, and of
-- two least or greatest values that are one the lesser time.
pub record IsMerged (a b r : Summary) : Type 0 where
  pub count : r.count ≡ a.count + b.count
  pub total : r.sum ≡ a.sum +ℤ b.sum
  pub begins-first : a.begin ≤ b.begin → Are r.begin r.first a.begin a.first
  pub begins-second : b.begin < a.begin → Are r.begin r.first b.begin b.first
  pub ends-first : b.end < a.end → Are r.end r.last a.end a.last
  pub ends-second : a.end ≤ b.end → Are r.end r.last b.end b.last
  pub low-first : a.min <ℤ b.min → Are r.min_ts r.min a.min_ts a.min
  pub low-second : b.min <ℤ a.min → Are r.min_ts r.min b.min_ts b.min
  pub low-both : a.min ≡ b.min → Are r.min_ts r.min (min a.min_ts b.min_ts) a.min
  pub high-first : b.max <ℤ a.max → Are r.max_ts r.max a.max_ts a.max
  pub high-second : a.max <ℤ b.max → Are r.max_ts r.max b.max_ts b.max
  pub high-both : a.max ≡ b.max → Are r.max_ts r.max (min a.max_ts b.max_ts) a.max
