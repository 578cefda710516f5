-- The summary of one list followed by another.
use Rattle.std.proofs.Common.{◌∙◌, ap, ◌+◌, ◌≡◌, ◌-◌, ◌*◌, ◌^◌, ◌<◌, ◌≤◌, inl, inr, ℕ, suc, ℤ, pos, negsuc, ◌+ℤ◌, ◌*ℤ◌, ◌≤ℤ◌, ◌<ℤ◌, List, [], ◌∷◌, ◌++◌, Bool, true, false, cond, refl, sym, subst, arith, length-append, FitsSigned, to_z, of_z, zero-add, zero}
use Rattle.std.proofs.lemmas.Int.{ints}
use mir.Syntax.{w128}
use Rattle.std.proofs.Math.IntN.{pos-*ℤ-pos, pos-*ℤ-negsuc, zero-*ℤ}
use Rattle.std.proofs.lemmas.Nat.{mul-le}
use Rattle.std.specs.Prelude.{int_lt}
use Rattle.ak_base.specs.declared.point.Point.{Point}
use Rattle.std.specs.List.{AllByRecursion}
use Rattle.ak_base.specs.Points.{Rises}
use Rattle.ak_summary.specs.Order.{AnyByRecursion}
use Rattle.ak_summary.specs.Bounds.{product_suc}
use Rattle.ak_summary.specs.Summaries.{IsFirst, IsLast, value_sum, IsLeast, IsGreatest, IsSummary, IsBounded, joined}
use Rattle.ak_summary.specs.declared.summary.Summary.{Summary}

product_low : (c : ℕ) (v : ℤ) → c < 2 ^ 63 → negsuc (2 ^ 63 - 1) ≤ℤ v → negsuc (2 ^ 126 - 1) ≤ℤ (pos c *ℤ v)
product_low c (pos n) small low = subst (λ (z : ℤ). negsuc (2 ^ 126 - 1) ≤ℤ z) (sym (pos-*ℤ-pos c n)) (omega (arith, ints))
product_low c (negsuc n) small low =
    let most : c * suc n ≤ (2 ^ 63 - 1) * 2 ^ 63 = mul-le c (suc n) (2 ^ 63 - 1) (2 ^ 63) (omega arith) (omega (arith, ints)) in
    subst (λ (z : ℤ). negsuc (2 ^ 126 - 1) ≤ℤ z) (sym (pos-*ℤ-negsuc c n)) (omega (arith, ints, most))

product_high : (c : ℕ) (v : ℤ) → c < 2 ^ 63 → v ≤ℤ pos (2 ^ 63 - 1) → (pos c *ℤ v) ≤ℤ pos (2 ^ 126 - 1)
product_high c (pos n) small high =
    let most : c * n ≤ (2 ^ 63 - 1) * 2 ^ 63 = mul-le c n (2 ^ 63 - 1) (2 ^ 63) (omega arith) (omega (arith, ints)) in
    subst (λ (z : ℤ). z ≤ℤ pos (2 ^ 126 - 1)) (sym (pos-*ℤ-pos c n)) (omega (arith, ints, most))
product_high c (negsuc n) small high = subst (λ (z : ℤ). z ≤ℤ pos (2 ^ 126 - 1)) (sym (pos-*ℤ-negsuc c n)) (omega (arith, ints))

-- a bounded sum is far from the ends of 128 bits
pub sum_small : (s : Summary) → IsBounded s → s.count < 2 ^ 63 → negsuc (2 ^ 63 - 1) ≤ℤ s.min → s.max ≤ℤ pos (2 ^ 63 - 1) → (negsuc (2 ^ 126 - 1) ≤ℤ s.sum) × (s.sum ≤ℤ pos (2 ^ 126 - 1))
sum_small s b small low high =
    (omega (arith, ints, product_low s.count s.min small low, b.low), omega (arith, ints, product_high s.count s.max small high, b.high))

-- each and some of two lists
each_append : (P : Point → Type 0) (ps qs : List Point) → AllByRecursion P ps → AllByRecursion P qs → AllByRecursion P (ps ++ qs)
each_append P [] qs h k = k
each_append P (p ∷ ps) qs (h, hs) k = (h, each_append P ps qs hs k)

pub each_as : (P Q : Point → Type 0) (ps : List Point) → ((p : Point) → P p → Q p) → AllByRecursion P ps → AllByRecursion Q ps
each_as P Q [] f h = tt
each_as P Q (p ∷ ps) f (h, hs) = (f p h, each_as P Q ps f hs)

each_both : (P Q R : Point → Type 0) (ps : List Point) → ((p : Point) → P p → Q p → R p) → AllByRecursion P ps → AllByRecursion Q ps → AllByRecursion R ps
each_both P Q R [] f h k = tt
each_both P Q R (p ∷ ps) f (h, hs) (k, ks) = (f p h k, each_both P Q R ps f hs ks)

some_left : (P : Point → Type 0) (ps qs : List Point) → AnyByRecursion P ps → AnyByRecursion P (ps ++ qs)
some_left P [] qs h = absurd h
some_left P (p ∷ ps) qs (inl h) = inl h
some_left P (p ∷ ps) qs (inr h) = inr (some_left P ps qs h)

some_right : (P : Point → Type 0) (ps qs : List Point) → AnyByRecursion P qs → AnyByRecursion P (ps ++ qs)
some_right P [] qs h = h
some_right P (p ∷ ps) qs h = inr (some_right P ps qs h)

each_back : (P : Point → Type 0) (ps qs : List Point) → AllByRecursion P (ps ++ qs) → AllByRecursion P qs
each_back P [] qs h = h
each_back P (p ∷ ps) qs (h, hs) = each_back P ps qs hs

-- a time of the first list is at most each time of the second
rises_over : (ps qs : List Point) (t : ℕ) (v : ℤ) → Rises (ps ++ qs) → AnyByRecursion (λ p. (p.ts ≡ t) × (p.value ≡ v)) ps → AllByRecursion (λ q. t ≤ q.ts) qs
rises_over [] qs t v h s = absurd s
rises_over (p ∷ ps) qs t v (h, hs) (inl s) = each_as (λ q. p.ts ≤ q.ts) (λ q. t ≤ q.ts) qs (λ q k. omega (arith, s.0)) (each_back (λ q. p.ts ≤ q.ts) ps qs h)
rises_over (p ∷ ps) qs t v (h, hs) (inr s) = rises_over ps qs t v hs s

first_append : (ps qs : List Point) (t : ℕ) (v : ℤ) → IsFirst ps t v → IsFirst (ps ++ qs) t v
first_append [] qs t v h = absurd h
first_append (p ∷ ps) qs t v h = h

pub last_cons : (p : Point) (qs : List Point) (t : ℕ) (v : ℤ) → IsLast qs t v → IsLast (p ∷ qs) t v
last_cons p [] t v h = absurd h
last_cons p (q ∷ qs) t v h = h

last_append : (ps qs : List Point) (t : ℕ) (v : ℤ) → IsLast qs t v → IsLast (ps ++ qs) t v
last_append [] qs t v h = h
last_append (p ∷ ps) qs t v h = last_cons p (ps ++ qs) t v (last_append ps qs t v h)

sum_append : (ps qs : List Point) → value_sum (ps ++ qs) ≡ value_sum ps +ℤ value_sum qs
sum_append [] qs = omega (arith, ints)
sum_append (p ∷ ps) qs = omega (arith, ints, sum_append ps qs)

-- the least of both, where the second has a lesser one, and where it hasn't
least_later : (ps qs : List Point) (t t' : ℕ) (v v' : ℤ) → v' <ℤ v → IsLeast ps t v → IsLeast qs t' v' → IsLeast (ps ++ qs) t' v'
least_later ps qs t t' v v' less a b = record {
  stands = some_right (λ p. (p.ts ≡ t') × (p.value ≡ v')) ps qs b.stands;
  least = each_append (λ p. v' ≤ℤ p.value) ps qs (each_as (λ p. v ≤ℤ p.value) (λ p. v' ≤ℤ p.value) ps (λ p h. omega (arith, ints)) a.least) b.least;
  earliest = each_append (λ p. p.value ≡ v' → t' ≤ p.ts) ps qs (each_as (λ p. v ≤ℤ p.value) (λ p. p.value ≡ v' → t' ≤ p.ts) ps (λ p h e. absurd (omega (arith, ints))) a.least) b.earliest;
}

least_earlier : (ps qs : List Point) (t t' : ℕ) (v v' : ℤ) → v ≤ℤ v' → Rises (ps ++ qs) → IsLeast ps t v → IsLeast qs t' v' → IsLeast (ps ++ qs) t v
least_earlier ps qs t t' v v' most h a b = record {
  stands = some_left (λ p. (p.ts ≡ t) × (p.value ≡ v)) ps qs a.stands;
  least = each_append (λ p. v ≤ℤ p.value) ps qs a.least (each_as (λ p. v' ≤ℤ p.value) (λ p. v ≤ℤ p.value) qs (λ p k. omega (arith, ints)) b.least);
  earliest = each_append (λ p. p.value ≡ v → t ≤ p.ts) ps qs a.earliest (each_as (λ p. t ≤ p.ts) (λ p. p.value ≡ v → t ≤ p.ts) qs (λ p k e. k) (rises_over ps qs t v h a.stands));
}

greatest_later : (ps qs : List Point) (t t' : ℕ) (v v' : ℤ) → v <ℤ v' → IsGreatest ps t v → IsGreatest qs t' v' → IsGreatest (ps ++ qs) t' v'
greatest_later ps qs t t' v v' less a b = record {
  stands = some_right (λ p. (p.ts ≡ t') × (p.value ≡ v')) ps qs b.stands;
  greatest = each_append (λ p. p.value ≤ℤ v') ps qs (each_as (λ p. p.value ≤ℤ v) (λ p. p.value ≤ℤ v') ps (λ p h. omega (arith, ints)) a.greatest) b.greatest;
  earliest = each_append (λ p. p.value ≡ v' → t' ≤ p.ts) ps qs (each_as (λ p. p.value ≤ℤ v) (λ p. p.value ≡ v' → t' ≤ p.ts) ps (λ p h e. absurd (omega (arith, ints))) a.greatest) b.earliest;
}

greatest_earlier : (ps qs : List Point) (t t' : ℕ) (v v' : ℤ) → v' ≤ℤ v → Rises (ps ++ qs) → IsGreatest ps t v → IsGreatest qs t' v' → IsGreatest (ps ++ qs) t v
greatest_earlier ps qs t t' v v' most h a b = record {
  stands = some_left (λ p. (p.ts ≡ t) × (p.value ≡ v)) ps qs a.stands;
  greatest = each_append (λ p. p.value ≤ℤ v) ps qs a.greatest (each_as (λ p. p.value ≤ℤ v') (λ p. p.value ≤ℤ v) qs (λ p k. omega (arith, ints)) b.greatest);
  earliest = each_append (λ p. p.value ≡ v → t ≤ p.ts) ps qs a.earliest (each_as (λ p. t ≤ p.ts) (λ p. p.value ≡ v → t ≤ p.ts) qs (λ p k e. k) (rises_over ps qs t v h a.stands));
}

least_chosen : (ps qs : List Point) (t t' : ℕ) (v v' : ℤ) (b : Bool) → (b ≡ true → v' <ℤ v) → (b ≡ false → v ≤ℤ v') → Rises (ps ++ qs) → IsLeast ps t v → IsLeast qs t' v'
    → let p : Point = cond b (record { ts = t'; value = v' }) (record { ts = t; value = v }) in IsLeast (ps ++ qs) p.ts p.value
least_chosen ps qs t t' v v' true f g h a b = least_later ps qs t t' v v' (f refl) a b
least_chosen ps qs t t' v v' false f g h a b = least_earlier ps qs t t' v v' (g refl) h a b

greatest_chosen : (ps qs : List Point) (t t' : ℕ) (v v' : ℤ) (b : Bool) → (b ≡ true → v <ℤ v') → (b ≡ false → v' ≤ℤ v) → Rises (ps ++ qs) → IsGreatest ps t v → IsGreatest qs t' v'
    → let p : Point = cond b (record { ts = t'; value = v' }) (record { ts = t; value = v }) in IsGreatest (ps ++ qs) p.ts p.value
greatest_chosen ps qs t t' v v' true f g h a b = greatest_later ps qs t t' v v' (f refl) a b
greatest_chosen ps qs t t' v v' false f g h a b = greatest_earlier ps qs t t' v v' (g refl) h a b

pub int_lt_true : (a b : ℤ) → int_lt a b ≡ true → a <ℤ b
int_lt_true a b e = grind (arith, ints)

pub int_lt_false : (a b : ℤ) → int_lt a b ≡ false → b ≤ℤ a
int_lt_false a b e = grind (arith, ints)

pub IsSummary-joined : (a b : Summary) (ps qs : List Point) → Rises (ps ++ qs) → IsSummary ps a → IsSummary qs b → IsSummary (ps ++ qs) (joined a b)
IsSummary-joined a b ps qs h s t = record {
  count = omega (arith, s.count, t.count, length-append ps qs);
  begins = first_append ps qs a.begin a.first s.begins;
  ends = last_append ps qs b.end b.last t.ends;
  low = least_chosen ps qs a.min_ts b.min_ts a.min b.min (int_lt b.min a.min) (int_lt_true b.min a.min) (int_lt_false b.min a.min) h s.low t.low;
  high = greatest_chosen ps qs a.max_ts b.max_ts a.max b.max (int_lt a.max b.max) (int_lt_true a.max b.max) (int_lt_false a.max b.max) h s.high t.high;
  total = omega (arith, ints, s.total, t.total, sum_append ps qs);
}

-- two sums far from the ends of 128 bits
pub added : (x y : ℤ) → negsuc (2 ^ 126 - 1) ≤ℤ x → x ≤ℤ pos (2 ^ 126 - 1) → negsuc (2 ^ 126 - 1) ≤ℤ y → y ≤ℤ pos (2 ^ 126 - 1) → FitsSigned w128 (to_z w128 (of_z w128 x) +ℤ to_z w128 (of_z w128 y))
added x y a b d e =
    let f : FitsSigned w128 x = omega (arith, ints) in
    let g : FitsSigned w128 y = omega (arith, ints) in
    omega (arith, ints)

pub added_is : (x y : ℤ) → negsuc (2 ^ 126 - 1) ≤ℤ x → x ≤ℤ pos (2 ^ 126 - 1) → negsuc (2 ^ 126 - 1) ≤ℤ y → y ≤ℤ pos (2 ^ 126 - 1) → to_z w128 (of_z w128 (to_z w128 (of_z w128 x) +ℤ to_z w128 (of_z w128 y))) ≡ x +ℤ y
added_is x y a b d e =
    let f : FitsSigned w128 x = omega (arith, ints) in
    let g : FitsSigned w128 y = omega (arith, ints) in
    omega (arith, ints)

abbrev pub made_of : (count begin end : ℕ) (first last min : ℤ) (min_ts : ℕ) (max : ℤ) (max_ts : ℕ) (sum : ℤ) → Summary
made_of count begin end first last min min_ts max max_ts sum = record { count = count; begin = begin; end = end; first = first; last = last; min = min; min_ts = min_ts; max = max; max_ts = max_ts; sum = sum }

pub made : (count begin end : ℕ) {first first' last last' min min' : ℤ} {min_ts min_ts' : ℕ} {max max' : ℤ} {max_ts max_ts' : ℕ} {sum sum' : ℤ} → first ≡ first' → last ≡ last' → min ≡ min' → min_ts ≡ min_ts' → max ≡ max' → max_ts ≡ max_ts' → sum ≡ sum'
    → made_of count begin end first last min min_ts max max_ts sum ≡ made_of count begin end first' last' min' min_ts' max' max_ts' sum'
made count begin end a b d e f g h = cc

-- products of a count and a value
product_add : (a b : ℕ) (v : ℤ) → (pos (a + b) *ℤ v) ≡ (pos a *ℤ v) +ℤ (pos b *ℤ v)
product_add zero b v = ap (λ (n : ℕ). pos n *ℤ v) (zero-add b) ∙ omega (arith, ints, zero-*ℤ v)
product_add (suc a) b v =
    let moved : (pos (suc a + b) *ℤ v) ≡ (pos (suc (a + b)) *ℤ v) = ap (λ (n : ℕ). pos n *ℤ v) (omega arith) in
    omega (arith, ints, moved, product_suc (a + b) v, product_suc a v, product_add a b v)

product_most : (c : ℕ) (v w : ℤ) → v ≤ℤ w → (pos c *ℤ v) ≤ℤ (pos c *ℤ w)
product_most zero v w h = omega (arith, ints, zero-*ℤ v, zero-*ℤ w)
product_most (suc c) v w h = omega (arith, ints, product_suc c v, product_suc c w, product_most c v w h)

-- what has the sum of both and values as low and as high is bounded
pub bounded_both : (a b r : Summary) → IsBounded a → IsBounded b → r.count ≡ a.count + b.count → r.sum ≡ a.sum +ℤ b.sum → r.min ≤ℤ a.min → r.min ≤ℤ b.min → a.max ≤ℤ r.max → b.max ≤ℤ r.max → IsBounded r
bounded_both a b r h k count sum la lb ha hb =
    let low : (pos r.count *ℤ r.min) ≡ (pos a.count *ℤ r.min) +ℤ (pos b.count *ℤ r.min) = ap (λ (n : ℕ). pos n *ℤ r.min) count ∙ product_add a.count b.count r.min in
    let high : (pos r.count *ℤ r.max) ≡ (pos a.count *ℤ r.max) +ℤ (pos b.count *ℤ r.max) = ap (λ (n : ℕ). pos n *ℤ r.max) count ∙ product_add a.count b.count r.max in
    record {
      low = omega (arith, ints, low, sum, h.low, k.low, product_most a.count r.min a.min la, product_most b.count r.min b.min lb);
      high = omega (arith, ints, high, sum, h.high, k.high, product_most a.count a.max r.max ha, product_most b.count b.max r.max hb);
    }

pub least_bound : (v w : ℤ) (t u : ℕ) (b : Bool) → (b ≡ true → w <ℤ v) → (b ≡ false → v ≤ℤ w) → let p : Point = cond b (record { ts = u; value = w }) (record { ts = t; value = v }) in (p.value ≤ℤ v) × (p.value ≤ℤ w)
least_bound v w t u true f g = let h = f refl in (omega (arith, ints, h), omega (arith, ints))
least_bound v w t u false f g = let h = g refl in (omega (arith, ints), omega (arith, ints, h))

pub greatest_bound : (v w : ℤ) (t u : ℕ) (b : Bool) → (b ≡ true → v <ℤ w) → (b ≡ false → w ≤ℤ v) → let p : Point = cond b (record { ts = u; value = w }) (record { ts = t; value = v }) in (v ≤ℤ p.value) × (w ≤ℤ p.value)
greatest_bound v w t u true f g = let h = f refl in (omega (arith, ints, h), omega (arith, ints))
greatest_bound v w t u false f g = let h = g refl in (omega (arith, ints), omega (arith, ints, h))

pub joined_bounded : (a b : Summary) → IsBounded a → IsBounded b → IsBounded (joined a b)
joined_bounded a b h k =
    let low = least_bound a.min b.min a.min_ts b.min_ts (int_lt b.min a.min) (int_lt_true b.min a.min) (int_lt_false b.min a.min) in
    let high = greatest_bound a.max b.max a.max_ts b.max_ts (int_lt a.max b.max) (int_lt_true a.max b.max) (int_lt_false a.max b.max) in
    bounded_both a b (joined a b) h k refl refl low.0 low.1 high.0 high.1
