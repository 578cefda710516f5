-- The summary of two lists merged by time.
use Rattle.std.proofs.Common.{◌≡◌, ◌+◌, ◌<◌, ◌≤◌, min, ◌⊎◌, inl, inr, ℕ, ℤ, ◌+ℤ◌, ◌≤ℤ◌, ◌<ℤ◌, List, [], ◌∷◌, length, sym, ap, ◌∙◌, subst, arith}
use Rattle.std.proofs.lemmas.Int.{ints}
use Rattle.std.proofs.lemmas.Bool.{cases_lt, cases_Bool}
use Rattle.std.specs.Prelude.{int_lt}
use Rattle.ak_base.specs.declared.point.Point.{Point}
use Rattle.std.specs.List.{AllByRecursion}
use Rattle.ak_base.specs.Points.{Rises}
use Rattle.ak_summary.specs.Order.{AnyByRecursion, StartsFrom, StartsAfter, IsMerge}
use Rattle.ak_summary.specs.Summaries.{IsFirst, IsLast, value_sum, IsLeast, IsGreatest, IsSummary, Are, IsMerged, IsBounded}
use Rattle.ak_summary.specs.declared.summary.Summary.{Summary}
use Rattle.ak_summary.proofs.Joins.{bounded_both, each_as, last_cons, int_lt_true, int_lt_false}

merge_length : (rs ps qs : List Point) → IsMerge rs ps qs → length rs ≡ length ps + length qs
merge_length [] ps qs (e, f) = omega (arith, ap length e, ap length f)
merge_length (r ∷ rs) ps qs (inl (left, e, h, m)) = omega (arith, ap length e, merge_length rs left qs m)
merge_length (r ∷ rs) ps qs (inr (left, e, h, m)) = omega (arith, ap length e, merge_length rs ps left m)

merge_sum : (rs ps qs : List Point) → IsMerge rs ps qs → value_sum rs ≡ value_sum ps +ℤ value_sum qs
merge_sum [] ps qs (e, f) = omega (arith, ints, ap value_sum e, ap value_sum f)
merge_sum (r ∷ rs) ps qs (inl (left, e, h, m)) = omega (arith, ints, ap value_sum e, merge_sum rs left qs m)
merge_sum (r ∷ rs) ps qs (inr (left, e, h, m)) = omega (arith, ints, ap value_sum e, merge_sum rs ps left m)

merge_each : (P : Point → Type 0) (rs ps qs : List Point) → IsMerge rs ps qs → AllByRecursion P ps → AllByRecursion P qs → AllByRecursion P rs
merge_each P [] ps qs m h k = tt
merge_each P (r ∷ rs) ps qs (inl (left, e, s, m)) h k = let own : AllByRecursion P (r ∷ left) = subst (AllByRecursion P) e h in (own.0, merge_each P rs left qs m own.1 k)
merge_each P (r ∷ rs) ps qs (inr (left, e, s, m)) h k = let own : AllByRecursion P (r ∷ left) = subst (AllByRecursion P) e k in (own.0, merge_each P rs ps left m h own.1)

some_cons : (P : Point → Type 0) (r : Point) (rs left : List Point) → (AnyByRecursion P left → AnyByRecursion P rs) → AnyByRecursion P (r ∷ left) → AnyByRecursion P (r ∷ rs)
some_cons P r rs left f (inl h) = inl h
some_cons P r rs left f (inr h) = inr (f h)

merge_some_first : (P : Point → Type 0) (rs ps qs : List Point) → IsMerge rs ps qs → AnyByRecursion P ps → AnyByRecursion P rs
merge_some_first P [] ps qs (e, f) h = subst (AnyByRecursion P) e h
merge_some_first P (r ∷ rs) ps qs (inl (left, e, s, m)) h = some_cons P r rs left (merge_some_first P rs left qs m) (subst (AnyByRecursion P) e h)
merge_some_first P (r ∷ rs) ps qs (inr (left, e, s, m)) h = inr (merge_some_first P rs ps left m h)

merge_some_second : (P : Point → Type 0) (rs ps qs : List Point) → IsMerge rs ps qs → AnyByRecursion P qs → AnyByRecursion P rs
merge_some_second P [] ps qs (e, f) h = subst (AnyByRecursion P) f h
merge_some_second P (r ∷ rs) ps qs (inl (left, e, s, m)) h = inr (merge_some_second P rs left qs m h)
merge_some_second P (r ∷ rs) ps qs (inr (left, e, s, m)) h = some_cons P r rs left (merge_some_second P rs ps left m) (subst (AnyByRecursion P) e h)

-- the first point: t, v of the first list, t', v' of the second
starts_from : (t u : ℕ) (v : ℤ) (qs : List Point) → StartsFrom t qs → IsFirst qs u v → t ≤ u
starts_from t u v [] h f = absurd f
starts_from t u v (q ∷ qs) h f = omega (arith, f.0)

starts_after : (t u : ℕ) (v : ℤ) (qs : List Point) → StartsAfter t qs → IsFirst qs u v → t < u
starts_after t u v [] h f = absurd f
starts_after t u v (q ∷ qs) h f = omega (arith, f.0)

first_as : (ps : List Point) (t u : ℕ) (v w : ℤ) → (t ≡ u) × (v ≡ w) → IsFirst ps u w → IsFirst ps t v
first_as [] t u v w e h = absurd h
first_as (p ∷ ps) t u v w e h = (e.0 ∙ h.0, e.1 ∙ h.1)

last_as : (ps : List Point) (t u : ℕ) (v w : ℤ) → (t ≡ u) × (v ≡ w) → IsLast ps u w → IsLast ps t v
last_as ps t u v w e h = subst (λ (n : ℕ). IsLast ps n v) (sym e.0) (subst (λ (z : ℤ). IsLast ps u z) (sym e.1) h)

merge_first : (rs ps qs : List Point) (t u w : ℕ) (x v y : ℤ) → IsMerge rs ps qs → IsFirst ps t v → IsFirst qs u y → (t ≤ u → Are w x t v) → (u < t → Are w x u y) → IsFirst rs w x
merge_first [] ps qs t u w x v y (e, f) a b first second = absurd (subst (λ (l : List Point). IsFirst l t v) e a)
merge_first (r ∷ rs) ps qs t u w x v y (inl (left, e, s, m)) a b first second =
    let own : IsFirst (r ∷ left) t v = subst (λ (l : List Point). IsFirst l t v) e a in
    let chosen = first (omega (arith, own.0, starts_from r.ts u y qs s b)) in
    (chosen.0 ∙ own.0, chosen.1 ∙ own.1)
merge_first (r ∷ rs) ps qs t u w x v y (inr (left, e, s, m)) a b first second =
    let own : IsFirst (r ∷ left) u y = subst (λ (l : List Point). IsFirst l u y) e b in
    let chosen = second (omega (arith, own.0, starts_after r.ts t v ps s a)) in
    (chosen.0 ∙ own.0, chosen.1 ∙ own.1)

-- with one list used up the other is left
merge_none_first : (rs qs : List Point) → IsMerge rs [] qs → rs ≡ qs
merge_none_first [] qs (e, f) = sym f
merge_none_first (r ∷ rs) qs (inl (left, e, s, m)) = absurd (omega (arith, ap length e))
merge_none_first (r ∷ rs) qs (inr (left, e, s, m)) = ap (λ (l : List Point). r ∷ l) (merge_none_first rs left m) ∙ sym e

merge_none_second : (rs ps : List Point) → IsMerge rs ps [] → rs ≡ ps
merge_none_second [] ps (e, f) = sym e
merge_none_second (r ∷ rs) ps (inl (left, e, s, m)) = ap (λ (l : List Point). r ∷ l) (merge_none_second rs left m) ∙ sym e
merge_none_second (r ∷ rs) ps (inr (left, e, s, m)) = absurd (omega (arith, ap length e))

-- the last point isn't before the first
last_late : (t u : ℕ) (y : ℤ) (qs : List Point) → AllByRecursion (λ q. t ≤ q.ts) qs → IsLast qs u y → t ≤ u
last_late t u y [] h k = absurd k
last_late t u y (q ∷ []) h k = omega (arith, h.0, k.0)
last_late t u y (q ∷ p ∷ qs) (h, hs) k = last_late t u y (p ∷ qs) hs k

last_from : (t u : ℕ) (y : ℤ) (qs : List Point) → StartsFrom t qs → Rises qs → IsLast qs u y → t ≤ u
last_from t u y [] h r k = absurd k
last_from t u y (q ∷ []) h r k = omega (arith, k.0)
last_from t u y (q ∷ p ∷ qs) h r k = omega (arith, last_late q.ts u y (p ∷ qs) r.0 k)

last_after : (t u : ℕ) (y : ℤ) (qs : List Point) → StartsAfter t qs → Rises qs → IsLast qs u y → t < u
last_after t u y [] h r k = absurd k
last_after t u y (q ∷ []) h r k = omega (arith, k.0)
last_after t u y (q ∷ p ∷ qs) h r k = omega (arith, last_late q.ts u y (p ∷ qs) r.0 k)

merge_last : (rs ps qs : List Point) (t u w : ℕ) (x v y : ℤ) → IsMerge rs ps qs → Rises ps → Rises qs → IsLast ps t v → IsLast qs u y → (u < t → Are w x t v) → (t ≤ u → Are w x u y) → IsLast rs w x
merge_last [] ps qs t u w x v y (e, f) h k a b first second = absurd (subst (λ (l : List Point). IsLast l t v) e a)
merge_last (r ∷ rs) ps qs t u w x v y (inl ([], e, s, m)) h k a b first second =
    let own : IsLast (r ∷ []) t v = subst (λ (l : List Point). IsLast l t v) e a in
    let chosen = second (omega (arith, own.0, last_from r.ts u y qs s k b)) in
    last_cons r rs w x (last_as rs w u x y chosen (subst (λ (l : List Point). IsLast l u y) (sym (merge_none_first rs qs m)) b))
merge_last (r ∷ rs) ps qs t u w x v y (inl (p ∷ left, e, s, m)) h k a b first second =
    let own : IsLast (r ∷ p ∷ left) t v = subst (λ (l : List Point). IsLast l t v) e a in
    let rises : Rises (r ∷ p ∷ left) = subst Rises e h in
    last_cons r rs w x (merge_last rs (p ∷ left) qs t u w x v y m rises.1 k own b first second)
merge_last (r ∷ rs) ps qs t u w x v y (inr ([], e, s, m)) h k a b first second =
    let own : IsLast (r ∷ []) u y = subst (λ (l : List Point). IsLast l u y) e b in
    let chosen = first (omega (arith, own.0, last_after r.ts t v ps s h a)) in
    last_cons r rs w x (last_as rs w t x v chosen (subst (λ (l : List Point). IsLast l t v) (sym (merge_none_second rs ps m)) a))
merge_last (r ∷ rs) ps qs t u w x v y (inr (q ∷ left, e, s, m)) h k a b first second =
    let own : IsLast (r ∷ q ∷ left) u y = subst (λ (l : List Point). IsLast l u y) e b in
    let rises : Rises (r ∷ q ∷ left) = subst Rises e k in
    last_cons r rs w x (merge_last rs ps (q ∷ left) t u w x v y m h rises.1 a own first second)

-- how two values stand
pub three : (v y : ℤ) → (v <ℤ y) ⊎ ((y <ℤ v) ⊎ (v ≡ y))
three v y = elim (cases_Bool (int_lt v y)) [
  | inl less ↦ inl (int_lt_true v y less)
  | inr more ↦ elim (cases_Bool (int_lt y v)) [
    | inl less ↦ inr (inl (int_lt_true y v less))
    | inr same ↦ inr (inr (omega (arith, ints, int_lt_false v y more, int_lt_false y v same)))
  ]
]

least_as : (rs : List Point) (w t : ℕ) (x v : ℤ) → Are w x t v → IsLeast rs t v → IsLeast rs w x
least_as rs w t x v e h = subst (λ (n : ℕ). IsLeast rs n x) (sym e.0) (subst (λ (z : ℤ). IsLeast rs t z) (sym e.1) h)

greatest_as : (rs : List Point) (w t : ℕ) (x v : ℤ) → Are w x t v → IsGreatest rs t v → IsGreatest rs w x
greatest_as rs w t x v e h = subst (λ (n : ℕ). IsGreatest rs n x) (sym e.0) (subst (λ (z : ℤ). IsGreatest rs t z) (sym e.1) h)

some_as : (P Q : Point → Type 0) (ps : List Point) → ((p : Point) → P p → Q p) → AnyByRecursion P ps → AnyByRecursion Q ps
some_as P Q [] f h = absurd h
some_as P Q (p ∷ ps) f (inl h) = inl (f p h)
some_as P Q (p ∷ ps) f (inr h) = inr (some_as P Q ps f h)

merge_stands : (rs ps qs : List Point) (t u : ℕ) (v y : ℤ) → IsMerge rs ps qs → v ≡ y → AnyByRecursion (λ p. (p.ts ≡ t) × (p.value ≡ v)) ps → AnyByRecursion (λ p. (p.ts ≡ u) × (p.value ≡ y)) qs
    → AnyByRecursion (λ p. (p.ts ≡ min t u) × (p.value ≡ v)) rs
merge_stands rs ps qs t u v y m same a b = elim (cases_lt u t) [
  | inl less ↦ merge_some_second (λ p. (p.ts ≡ min t u) × (p.value ≡ v)) rs ps qs m (some_as (λ p. (p.ts ≡ u) × (p.value ≡ y)) (λ p. (p.ts ≡ min t u) × (p.value ≡ v)) qs (λ p h. (omega (arith, h.0), h.1 ∙ sym same)) b)
  | inr most ↦ merge_some_first (λ p. (p.ts ≡ min t u) × (p.value ≡ v)) rs ps qs m (some_as (λ p. (p.ts ≡ t) × (p.value ≡ v)) (λ p. (p.ts ≡ min t u) × (p.value ≡ v)) ps (λ p h. (omega (arith, h.0), h.1)) a)
]

-- the least value of both: t, v of the first list, u, y of the second, and w, x of both
merge_least : (rs ps qs : List Point) (t u w : ℕ) (x v y : ℤ) → IsMerge rs ps qs → IsLeast ps t v → IsLeast qs u y → (v <ℤ y → Are w x t v) → (y <ℤ v → Are w x u y) → (v ≡ y → Are w x (min t u) v) → IsLeast rs w x
merge_least rs ps qs t u w x v y m a b first second both =
    elim (three v y) [
      | inl less ↦ (let e = first less in least_as rs w t x v e (record {
        stands = merge_some_first (λ p. (p.ts ≡ t) × (p.value ≡ v)) rs ps qs m a.stands;
        least = merge_each (λ p. v ≤ℤ p.value) rs ps qs m a.least (each_as (λ p. y ≤ℤ p.value) (λ p. v ≤ℤ p.value) qs (λ p h. omega (arith, ints)) b.least);
        earliest = merge_each (λ p. p.value ≡ v → t ≤ p.ts) rs ps qs m a.earliest (each_as (λ p. y ≤ℤ p.value) (λ p. p.value ≡ v → t ≤ p.ts) qs (λ p h k. absurd (omega (arith, ints))) b.least);
      }))
      | inr (inl more) ↦ (let e = second more in least_as rs w u x y e (record {
        stands = merge_some_second (λ p. (p.ts ≡ u) × (p.value ≡ y)) rs ps qs m b.stands;
        least = merge_each (λ p. y ≤ℤ p.value) rs ps qs m (each_as (λ p. v ≤ℤ p.value) (λ p. y ≤ℤ p.value) ps (λ p h. omega (arith, ints)) a.least) b.least;
        earliest = merge_each (λ p. p.value ≡ y → u ≤ p.ts) rs ps qs m (each_as (λ p. v ≤ℤ p.value) (λ p. p.value ≡ y → u ≤ p.ts) ps (λ p h k. absurd (omega (arith, ints))) a.least) b.earliest;
      }))
      | inr (inr same) ↦ (let e = both same in least_as rs w (min t u) x v e (record {
        stands = merge_stands rs ps qs t u v y m same a.stands b.stands;
        least = merge_each (λ p. v ≤ℤ p.value) rs ps qs m a.least (each_as (λ p. y ≤ℤ p.value) (λ p. v ≤ℤ p.value) qs (λ p h. omega (arith, ints)) b.least);
        earliest = merge_each (λ p. p.value ≡ v → min t u ≤ p.ts) rs ps qs m
            (each_as (λ p. p.value ≡ v → t ≤ p.ts) (λ p. p.value ≡ v → min t u ≤ p.ts) ps (λ p h k. omega (arith, h k)) a.earliest)
            (each_as (λ p. p.value ≡ y → u ≤ p.ts) (λ p. p.value ≡ v → min t u ≤ p.ts) qs (λ p h k. omega (arith, h (k ∙ same))) b.earliest);
      }))
    ]

merge_greatest : (rs ps qs : List Point) (t u w : ℕ) (x v y : ℤ) → IsMerge rs ps qs → IsGreatest ps t v → IsGreatest qs u y → (y <ℤ v → Are w x t v) → (v <ℤ y → Are w x u y) → (v ≡ y → Are w x (min t u) v) → IsGreatest rs w x
merge_greatest rs ps qs t u w x v y m a b first second both =
    elim (three y v) [
      | inl less ↦ (let e = first less in greatest_as rs w t x v e (record {
        stands = merge_some_first (λ p. (p.ts ≡ t) × (p.value ≡ v)) rs ps qs m a.stands;
        greatest = merge_each (λ p. p.value ≤ℤ v) rs ps qs m a.greatest (each_as (λ p. p.value ≤ℤ y) (λ p. p.value ≤ℤ v) qs (λ p h. omega (arith, ints)) b.greatest);
        earliest = merge_each (λ p. p.value ≡ v → t ≤ p.ts) rs ps qs m a.earliest (each_as (λ p. p.value ≤ℤ y) (λ p. p.value ≡ v → t ≤ p.ts) qs (λ p h k. absurd (omega (arith, ints))) b.greatest);
      }))
      | inr (inl more) ↦ (let e = second more in greatest_as rs w u x y e (record {
        stands = merge_some_second (λ p. (p.ts ≡ u) × (p.value ≡ y)) rs ps qs m b.stands;
        greatest = merge_each (λ p. p.value ≤ℤ y) rs ps qs m (each_as (λ p. p.value ≤ℤ v) (λ p. p.value ≤ℤ y) ps (λ p h. omega (arith, ints)) a.greatest) b.greatest;
        earliest = merge_each (λ p. p.value ≡ y → u ≤ p.ts) rs ps qs m (each_as (λ p. p.value ≤ℤ v) (λ p. p.value ≡ y → u ≤ p.ts) ps (λ p h k. absurd (omega (arith, ints))) a.greatest) b.earliest;
      }))
      | inr (inr same) ↦ (let e = both (sym same) in greatest_as rs w (min t u) x v e (record {
        stands = merge_stands rs ps qs t u v y m (sym same) a.stands b.stands;
        greatest = merge_each (λ p. p.value ≤ℤ v) rs ps qs m a.greatest (each_as (λ p. p.value ≤ℤ y) (λ p. p.value ≤ℤ v) qs (λ p h. omega (arith, ints)) b.greatest);
        earliest = merge_each (λ p. p.value ≡ v → min t u ≤ p.ts) rs ps qs m
            (each_as (λ p. p.value ≡ v → t ≤ p.ts) (λ p. p.value ≡ v → min t u ≤ p.ts) ps (λ p h k. omega (arith, h k)) a.earliest)
            (each_as (λ p. p.value ≡ y → u ≤ p.ts) (λ p. p.value ≡ v → min t u ≤ p.ts) qs (λ p h k. omega (arith, h (k ∙ sym same))) b.earliest);
      }))
    ]

pub IsSummary-merged : (a b r : Summary) (rs ps qs : List Point) → IsMerged a b r → IsMerge rs ps qs → Rises ps → Rises qs → IsSummary ps a → IsSummary qs b → IsSummary rs r
IsSummary-merged a b r rs ps qs f m h k s t = record {
  count = omega (arith, f.count, s.count, t.count, merge_length rs ps qs m);
  begins = merge_first rs ps qs a.begin b.begin r.begin r.first a.first b.first m s.begins t.begins f.begins-first f.begins-second;
  ends = merge_last rs ps qs a.end b.end r.end r.last a.last b.last m h k s.ends t.ends f.ends-first f.ends-second;
  low = merge_least rs ps qs a.min_ts b.min_ts r.min_ts r.min a.min b.min m s.low t.low f.low-first f.low-second f.low-both;
  high = merge_greatest rs ps qs a.max_ts b.max_ts r.max_ts r.max a.max b.max m s.high t.high f.high-first f.high-second f.high-both;
  total = omega (arith, ints, f.total, s.total, t.total, merge_sum rs ps qs m);
}

pub low_bound : (a b r : Summary) → IsMerged a b r → (a.min <ℤ b.min) ⊎ ((b.min <ℤ a.min) ⊎ (a.min ≡ b.min)) → (r.min ≤ℤ a.min) × (r.min ≤ℤ b.min)
low_bound a b r f (inl less) = let e = (f.low-first less).1 in (omega (arith, ints, e), omega (arith, ints, e))
low_bound a b r f (inr (inl more)) = let e = (f.low-second more).1 in (omega (arith, ints, e), omega (arith, ints, e))
low_bound a b r f (inr (inr same)) = let e = (f.low-both same).1 in (omega (arith, ints, e), omega (arith, ints, e))

pub high_bound : (a b r : Summary) → IsMerged a b r → (b.max <ℤ a.max) ⊎ ((a.max <ℤ b.max) ⊎ (b.max ≡ a.max)) → (a.max ≤ℤ r.max) × (b.max ≤ℤ r.max)
high_bound a b r f (inl less) = let e = (f.high-first less).1 in (omega (arith, ints, e), omega (arith, ints, e))
high_bound a b r f (inr (inl more)) = let e = (f.high-second more).1 in (omega (arith, ints, e), omega (arith, ints, e))
high_bound a b r f (inr (inr same)) = let e = (f.high-both (sym same)).1 in (omega (arith, ints, e), omega (arith, ints, e))

pub merged_bounded : (a b r : Summary) → IsMerged a b r → IsBounded a → IsBounded b → IsBounded r
merged_bounded a b r f h k =
    let low = low_bound a b r f (three a.min b.min) in
    let high = high_bound a b r f (three b.max a.max) in
    bounded_both a b r h k f.count f.total low.0 low.1 high.0 high.1
