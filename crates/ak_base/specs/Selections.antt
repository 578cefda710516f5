-- Which points a range of time and bounds of values select.
use Rattle.std.specs.Prelude.{◌≡◌, ℕ, ℤ, Bool, true, ◌&&◌, nat_le, nat_lt, int_lt, int_le, if◌then◌else◌, List, Option, Some, None}
use Rattle.std.specs.List.{filter}
use Rattle.ak_base.specs.declared.point.Point.{Point}
use Rattle.ak_base.specs.declared.range.Range.{Range}
use Rattle.ak_base.specs.declared.filter.Filter.{Filter}

-- before the end of a forward range, and behind that of a backward one
abbrev pub is_before : Option ℕ → ℕ → Bool
is_before None ts = true
is_before (Some to) ts = nat_lt ts to

abbrev pub is_behind : Option ℕ → ℕ → Bool
is_behind None ts = true
is_behind (Some to) ts = nat_lt to ts

-- forward from <= ts < to, backward to < ts <= from
abbrev pub range_has : Range → ℕ → Bool
range_has r ts = if r.back then (is_behind r.to ts && nat_le ts r.from) else (nat_le r.from ts && is_before r.to ts)

-- the bounds of a filter that are there
abbrev pub is_over : Option ℤ → ℤ → Bool
is_over None v = true
is_over (Some bound) v = int_lt bound v

abbrev pub is_from : Option ℤ → ℤ → Bool
is_from None v = true
is_from (Some bound) v = int_le bound v

abbrev pub is_under : Option ℤ → ℤ → Bool
is_under None v = true
is_under (Some bound) v = int_lt v bound

abbrev pub is_to : Option ℤ → ℤ → Bool
is_to None v = true
is_to (Some bound) v = int_le v bound

abbrev pub filter_has : Filter → ℤ → Bool
filter_has f v = is_over f.gt v && is_from f.ge v && is_under f.lt v && is_to f.le v

-- no bound is there
pub record IsOpen (f : Filter) : Type 0 where
  pub gt : f.gt ≡ None
  pub ge : f.ge ≡ None
  pub lt : f.lt ≡ None
  pub le : f.le ≡ None

-- the selected points of a list, in order
abbrev pub selected : Range → Filter → List Point → List Point
selected r f ps = filter (λ (p : Point). range_has r p.ts && filter_has f p.value) ps
