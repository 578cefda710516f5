-- A list has one summary.
use Rattle.std.proofs.Common.{◌≡◌, ◌≤◌, inl, inr, ℕ, ℤ, ◌≤ℤ◌, List, [], ◌∷◌, refl, sym, ◌∙◌, arith}
use Rattle.std.proofs.lemmas.Int.{ints}
use Rattle.ak_base.specs.declared.point.Point.{Point}
use Rattle.std.specs.List.{AllByRecursion}
use Rattle.ak_summary.specs.Order.{AnyByRecursion}
use Rattle.ak_summary.specs.Summaries.{IsFirst, IsLast, IsLeast, IsGreatest, IsSummary}
use Rattle.ak_summary.specs.declared.summary.Summary.{Summary}

first_one : (ps : List Point) (t u : ℕ) (v w : ℤ) → IsFirst ps t v → IsFirst ps u w → (t ≡ u) × (v ≡ w)
first_one [] t u v w h k = absurd h
first_one (p ∷ ps) t u v w h k = (h.0 ∙ sym k.0, h.1 ∙ sym k.1)

last_one : (ps : List Point) (t u : ℕ) (v w : ℤ) → IsLast ps t v → IsLast ps u w → (t ≡ u) × (v ≡ w)
last_one [] t u v w h k = absurd h
last_one (p ∷ []) t u v w h k = (h.0 ∙ sym k.0, h.1 ∙ sym k.1)
last_one (p ∷ q ∷ ps) t u v w h k = last_one (q ∷ ps) t u v w h k

-- one of the points at which both hold
pub record Both (P Q : Point → Type 0) : Type 0 where
  pub p : Point
  pub first : P p
  pub second : Q p

pub pick : (P Q : Point → Type 0) (ps : List Point) → AnyByRecursion P ps → AllByRecursion Q ps → Both P Q
pick P Q [] s e = absurd s
pick P Q (p ∷ ps) (inl h) e = record { p = p; first = h; second = e.0 }
pick P Q (p ∷ ps) (inr h) e = pick P Q ps h e.1

under : (ps : List Point) (t : ℕ) (v w : ℤ) → AnyByRecursion (λ p. (p.ts ≡ t) × (p.value ≡ v)) ps → AllByRecursion (λ p. w ≤ℤ p.value) ps → w ≤ℤ v
under ps t v w s e = let b = pick (λ p. (p.ts ≡ t) × (p.value ≡ v)) (λ p. w ≤ℤ p.value) ps s e in omega (arith, ints, b.first.1, b.second)

over : (ps : List Point) (t : ℕ) (v w : ℤ) → AnyByRecursion (λ p. (p.ts ≡ t) × (p.value ≡ v)) ps → AllByRecursion (λ p. p.value ≤ℤ w) ps → v ≤ℤ w
over ps t v w s e = let b = pick (λ p. (p.ts ≡ t) × (p.value ≡ v)) (λ p. p.value ≤ℤ w) ps s e in omega (arith, ints, b.first.1, b.second)

before : (ps : List Point) (t u : ℕ) (v w : ℤ) → v ≡ w → AnyByRecursion (λ p. (p.ts ≡ t) × (p.value ≡ v)) ps → AllByRecursion (λ p. p.value ≡ w → u ≤ p.ts) ps → u ≤ t
before ps t u v w same s e = let b = pick (λ p. (p.ts ≡ t) × (p.value ≡ v)) (λ p. p.value ≡ w → u ≤ p.ts) ps s e in omega (arith, b.first.0, b.second (b.first.1 ∙ same))

least_one : (ps : List Point) (t u : ℕ) (v w : ℤ) → IsLeast ps t v → IsLeast ps u w → (t ≡ u) × (v ≡ w)
least_one ps t u v w h k =
    let same : v ≡ w = omega (arith, ints, under ps t v w h.stands k.least, under ps u w v k.stands h.least) in
    (omega (arith, before ps t u v w same h.stands k.earliest, before ps u t w v (sym same) k.stands h.earliest), same)

greatest_one : (ps : List Point) (t u : ℕ) (v w : ℤ) → IsGreatest ps t v → IsGreatest ps u w → (t ≡ u) × (v ≡ w)
greatest_one ps t u v w h k =
    let same : v ≡ w = omega (arith, ints, over ps t v w h.stands k.greatest, over ps u w v k.stands h.greatest) in
    (omega (arith, before ps t u v w same h.stands k.earliest, before ps u t w v (sym same) k.stands h.earliest), same)

made : (count begin end : ℕ) (first last min : ℤ) (min_ts : ℕ) (max : ℤ) (max_ts : ℕ) (sum : ℤ) → Summary
made count begin end first last min min_ts max max_ts sum = record { count = count; begin = begin; end = end; first = first; last = last; min = min; min_ts = min_ts; max = max; max_ts = max_ts; sum = sum }

same_made : (a b : Summary) → a.count ≡ b.count → (a.begin ≡ b.begin) × (a.first ≡ b.first) → (a.end ≡ b.end) × (a.last ≡ b.last) → (a.min_ts ≡ b.min_ts) × (a.min ≡ b.min) → (a.max_ts ≡ b.max_ts) × (a.max ≡ b.max) → a.sum ≡ b.sum
    → made a.count a.begin a.end a.first a.last a.min a.min_ts a.max a.max_ts a.sum ≡ made b.count b.begin b.end b.first b.last b.min b.min_ts b.max b.max_ts b.sum
same_made a b c (d, e) (f, g) (h, i) (j, k) l = cc

made_is : (a : Summary) → made a.count a.begin a.end a.first a.last a.min a.min_ts a.max a.max_ts a.sum ≡ a
unfolding made
made_is a = refl

pub IsSummary-one : (ps : List Point) (a b : Summary) → IsSummary ps a → IsSummary ps b → a ≡ b
IsSummary-one ps a b s t =
    sym (made_is a)
    ∙ same_made a b (s.count ∙ sym t.count) (first_one ps a.begin b.begin a.first b.first s.begins t.begins) (last_one ps a.end b.end a.last b.last s.ends t.ends)
    (least_one ps a.min_ts b.min_ts a.min b.min s.low t.low) (greatest_one ps a.max_ts b.max_ts a.max b.max s.high t.high) (s.total ∙ sym t.total)
    ∙ made_is b
