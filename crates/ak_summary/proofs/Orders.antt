-- What the ends, the times and the values of a summary keep.
use Rattle.std.proofs.Common.{◌≡◌, ◌<◌, ◌≤◌, min, ◌⊎◌, inl, inr, ℕ, ℤ, ◌≤ℤ◌, ◌<ℤ◌, List, [], ◌∷◌, Bool, true, false, cond, sym, arith}
use Rattle.std.proofs.lemmas.Int.{ints}
use Rattle.std.proofs.lemmas.Bool.{cases_lt}
use Rattle.std.specs.Prelude.{int_lt}
use Rattle.std.specs.List.{AllByRecursion}
use Rattle.ak_base.specs.declared.point.Point.{Point}
use Rattle.ak_base.specs.Points.{Rises, IsHistory}
use Rattle.ak_base.proofs.Histories.{history_rises}
use Rattle.ak_summary.specs.Order.{AnyByRecursion}
use Rattle.ak_summary.specs.Ones.{pick}
use Rattle.ak_summary.specs.Summaries.{IsFirst, IsLast, IsSummary, IsOrderly, joined, Are, IsMerged}
use Rattle.ak_summary.specs.declared.summary.Summary.{Summary}
use Rattle.ak_summary.proofs.Joins.{int_lt_true, int_lt_false, least_bound, greatest_bound}
use Rattle.ak_summary.proofs.Merges.{three, low_bound, high_bound}

-- a time that one of the points has, where each of them is at or after a moment, or at or before it
time_from : (ps : List Point) (t u : ℕ) (v : ℤ) → AnyByRecursion (λ p. (p.ts ≡ t) × (p.value ≡ v)) ps → AllByRecursion (λ p. u ≤ p.ts) ps → u ≤ t
time_from ps t u v stands each = let b = pick (λ p. (p.ts ≡ t) × (p.value ≡ v)) (λ p. u ≤ p.ts) ps stands each in omega (arith, b.first.0, b.second)

time_to : (ps : List Point) (t u : ℕ) (v : ℤ) → AnyByRecursion (λ p. (p.ts ≡ t) × (p.value ≡ v)) ps → AllByRecursion (λ p. p.ts ≤ u) ps → t ≤ u
time_to ps t u v stands each = let b = pick (λ p. (p.ts ≡ t) × (p.value ≡ v)) (λ p. p.ts ≤ u) ps stands each in omega (arith, b.first.0, b.second)

first_from : (ps : List Point) (t : ℕ) (v : ℤ) → Rises ps → IsFirst ps t v → AllByRecursion (λ p. t ≤ p.ts) ps
first_from [] t v rises first = tt
first_from (p ∷ ps) t v rises first = (omega (arith, first.0), same ps rises.0)
  where
    same : (qs : List Point) → AllByRecursion (λ q. p.ts ≤ q.ts) qs → AllByRecursion (λ q. t ≤ q.ts) qs
    same [] each = tt
    same (q ∷ qs) each = (omega (arith, first.0, each.0), same qs each.1)

last_to : (ps : List Point) (t : ℕ) (v : ℤ) → Rises ps → IsLast ps t v → AllByRecursion (λ p. p.ts ≤ t) ps
last_to [] t v rises last = tt
last_to (p ∷ []) t v rises last = (omega (arith, last.0), tt)
last_to (p ∷ q ∷ ps) t v rises last = let rest = last_to (q ∷ ps) t v rises.1 last in (omega (arith, rises.0.0, rest.0), rest)

first_each : (P : Point → Type 0) (Q : ℤ → Type 0) (ps : List Point) (t : ℕ) (v : ℤ) → ((p : Point) → v ≡ p.value → P p → Q v) → IsFirst ps t v → AllByRecursion P ps → Q v
first_each P Q [] t v f first each = absurd first
first_each P Q (p ∷ ps) t v f first each = f p first.1 each.0

last_each : (P : Point → Type 0) (Q : ℤ → Type 0) (ps : List Point) (t : ℕ) (v : ℤ) → ((p : Point) → v ≡ p.value → P p → Q v) → IsLast ps t v → AllByRecursion P ps → Q v
last_each P Q [] t v f last each = absurd last
last_each P Q (p ∷ []) t v f last each = f p last.1 each.0
last_each P Q (p ∷ q ∷ ps) t v f last each = last_each P Q (q ∷ ps) t v f last each.1

pub IsSummary-orderly : (ps : List Point) (s : Summary) → IsHistory ps → IsSummary ps s → IsOrderly s
IsSummary-orderly ps s history is =
    let rises = history_rises 0 ps history in
    let from = first_from ps s.begin s.first rises is.begins in
    let to = last_to ps s.end s.last rises is.ends in
    let min_from = time_from ps s.min_ts s.begin s.min is.low.stands from in
    let min_to = time_to ps s.min_ts s.end s.min is.low.stands to in
    record {
      ends = omega (arith, min_from, min_to);
      min_from = min_from;
      min_to = min_to;
      max_from = time_from ps s.max_ts s.begin s.max is.high.stands from;
      max_to = time_to ps s.max_ts s.end s.max is.high.stands to;
      first_least = first_each (λ p. s.min ≤ℤ p.value) (λ v. s.min ≤ℤ v) ps s.begin s.first (λ p e h. omega (arith, ints, e, h)) is.begins is.low.least;
      first_most = first_each (λ p. p.value ≤ℤ s.max) (λ v. v ≤ℤ s.max) ps s.begin s.first (λ p e h. omega (arith, ints, e, h)) is.begins is.high.greatest;
      last_least = last_each (λ p. s.min ≤ℤ p.value) (λ v. s.min ≤ℤ v) ps s.end s.last (λ p e h. omega (arith, ints, e, h)) is.ends is.low.least;
      last_most = last_each (λ p. p.value ≤ℤ s.max) (λ v. v ≤ℤ s.max) ps s.end s.last (λ p e h. omega (arith, ints, e, h)) is.ends is.high.greatest;
    }

chosen_within : (t u from to : ℕ) (v w : ℤ) (b : Bool) → from ≤ t → t ≤ to → from ≤ u → u ≤ to → let p : Point = cond b (record { ts = u; value = w }) (record { ts = t; value = v }) in (from ≤ p.ts) × (p.ts ≤ to)
chosen_within t u from to v w true a b c d = (c, d)
chosen_within t u from to v w false a b c d = (a, b)

pub joined_orderly : (a b : Summary) → IsOrderly a → IsOrderly b → a.end ≤ b.begin → IsOrderly (joined a b)
joined_orderly a b h k before =
    let low = least_bound a.min b.min a.min_ts b.min_ts (int_lt b.min a.min) (int_lt_true b.min a.min) (int_lt_false b.min a.min) in
    let high = greatest_bound a.max b.max a.max_ts b.max_ts (int_lt a.max b.max) (int_lt_true a.max b.max) (int_lt_false a.max b.max) in
    let low_ts = chosen_within a.min_ts b.min_ts a.begin b.end a.min b.min (int_lt b.min a.min) h.min_from (omega (arith, h.min_to, k.ends)) (omega (arith, h.ends, k.min_from)) k.min_to in
    let high_ts = chosen_within a.max_ts b.max_ts a.begin b.end a.max b.max (int_lt a.max b.max) h.max_from (omega (arith, h.max_to, k.ends)) (omega (arith, h.ends, k.max_from)) k.max_to in
    record {
      ends = omega (arith, h.ends, k.ends);
      min_from = low_ts.0;
      min_to = low_ts.1;
      max_from = high_ts.0;
      max_to = high_ts.1;
      first_least = omega (arith, ints, low.0, h.first_least);
      first_most = omega (arith, ints, high.0, h.first_most);
      last_least = omega (arith, ints, low.1, k.last_least);
      last_most = omega (arith, ints, high.1, k.last_most);
    }

-- the earlier of two, and the later
begin_least : (t u w : ℕ) (x v y : ℤ) → (t ≤ u → Are w x t v) → (u < t → Are w x u y) → (w ≤ t) × (w ≤ u)
begin_least t u w x v y first second = elim (cases_lt u t) [
  | inl less ↦ (omega (arith, (second less).0), omega (arith, (second less).0))
  | inr most ↦ (omega (arith, (first most).0), omega (arith, (first most).0))
]

end_most : (t u w : ℕ) (x v y : ℤ) → (u < t → Are w x t v) → (t ≤ u → Are w x u y) → (t ≤ w) × (u ≤ w)
end_most t u w x v y first second = elim (cases_lt u t) [
  | inl less ↦ (omega (arith, (first less).0), omega (arith, (first less).0))
  | inr most ↦ (omega (arith, (second most).0), omega (arith, (second most).0))
]

begin_between : (t u w : ℕ) (x v y low high : ℤ) → (t ≤ u → Are w x t v) → (u < t → Are w x u y) → low ≤ℤ v → v ≤ℤ high → low ≤ℤ y → y ≤ℤ high → (low ≤ℤ x) × (x ≤ℤ high)
begin_between t u w x v y low high first second a b c d = elim (cases_lt u t) [
  | inl less ↦ (omega (arith, ints, (second less).1), omega (arith, ints, (second less).1))
  | inr most ↦ (omega (arith, ints, (first most).1), omega (arith, ints, (first most).1))
]

end_between : (t u w : ℕ) (x v y low high : ℤ) → (u < t → Are w x t v) → (t ≤ u → Are w x u y) → low ≤ℤ v → v ≤ℤ high → low ≤ℤ y → y ≤ℤ high → (low ≤ℤ x) × (x ≤ℤ high)
end_between t u w x v y low high first second a b c d = elim (cases_lt u t) [
  | inl less ↦ (omega (arith, ints, (first less).1), omega (arith, ints, (first less).1))
  | inr most ↦ (omega (arith, ints, (second most).1), omega (arith, ints, (second most).1))
]

-- the time of the least value, or of the greatest
time_within : (t u w from to : ℕ) (x v y : ℤ) (P Q R : Type 0) → P ⊎ (Q ⊎ R) → (P → Are w x t v) → (Q → Are w x u y) → (R → Are w x (min t u) v) → from ≤ t → t ≤ to → from ≤ u → u ≤ to → (from ≤ w) × (w ≤ to)
time_within t u w from to x v y P Q R (inl h) first second both a b c d = let e = (first h).0 in (omega (arith, e), omega (arith, e))
time_within t u w from to x v y P Q R (inr (inl h)) first second both a b c d = let e = (second h).0 in (omega (arith, e), omega (arith, e))
time_within t u w from to x v y P Q R (inr (inr h)) first second both a b c d = let e = (both h).0 in (omega (arith, e), omega (arith, e))

pub merged_orderly : (a b r : Summary) → IsMerged a b r → IsOrderly a → IsOrderly b → IsOrderly r
merged_orderly a b r f h k =
    let begin = begin_least a.begin b.begin r.begin r.first a.first b.first f.begins-first f.begins-second in
    let end = end_most a.end b.end r.end r.last a.last b.last f.ends-first f.ends-second in
    let low = low_bound a b r f (three a.min b.min) in
    let high = high_bound a b r f (three b.max a.max) in
    let low_ts = time_within a.min_ts b.min_ts r.min_ts r.begin r.end r.min a.min b.min (a.min <ℤ b.min) (b.min <ℤ a.min) (a.min ≡ b.min) (three a.min b.min) f.low-first f.low-second f.low-both
    (omega (arith, begin.0, h.min_from)) (omega (arith, end.0, h.min_to)) (omega (arith, begin.1, k.min_from)) (omega (arith, end.1, k.min_to)) in
    let high_ts = time_within a.max_ts b.max_ts r.max_ts r.begin r.end r.max a.max b.max (b.max <ℤ a.max) (a.max <ℤ b.max) (b.max ≡ a.max) (three b.max a.max) f.high-first f.high-second (λ e. f.high-both (sym e))
    (omega (arith, begin.0, h.max_from)) (omega (arith, end.0, h.max_to)) (omega (arith, begin.1, k.max_from)) (omega (arith, end.1, k.max_to)) in
    let first = begin_between a.begin b.begin r.begin r.first a.first b.first r.min r.max f.begins-first f.begins-second
    (omega (arith, ints, low.0, h.first_least)) (omega (arith, ints, high.0, h.first_most)) (omega (arith, ints, low.1, k.first_least)) (omega (arith, ints, high.1, k.first_most)) in
    let last = end_between a.end b.end r.end r.last a.last b.last r.min r.max f.ends-first f.ends-second
    (omega (arith, ints, low.0, h.last_least)) (omega (arith, ints, high.0, h.last_most)) (omega (arith, ints, low.1, k.last_least)) (omega (arith, ints, high.1, k.last_most)) in
    record {
      ends = omega (arith, begin.0, h.ends, end.0);
      min_from = low_ts.0;
      min_to = low_ts.1;
      max_from = high_ts.0;
      max_to = high_ts.1;
      first_least = first.0;
      first_most = first.1;
      last_least = last.0;
      last_most = last.1;
    }
