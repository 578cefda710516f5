-- Rescue addresses: as a record tells them, and where a leaf is closed.
use Rattle.std.proofs.Common.{◌≡◌, ◌≢◌, inl, inr, ◌+◌, ◌-◌, ◌*◌, ◌/◌, ◌%◌, ◌^◌, ◌==◌, ◌<◌, ◌≤◌, ◌∙◌, ℕ, zero, suc, Bool, true, false, if◌then◌else◌, nat_lt, List, [], ◌∷◌, ◌++◌, length, drop, refl, sym, ap, ap₂, arith, div-add-mod', mod-lt}
use Rattle.std.proofs.Math.Nat.{one-le-pow, mul-div-le, div-add-mod, mod_self}
use Rattle.std.proofs.lemmas.Nat.Gcd.{dvd_of_mod-eq-zero, le_of_dvd}
use Rattle.std.proofs.lemmas.Nat.{div-mul-add}
use Rattle.std.proofs.lemmas.Bool.{cases_lt, cond-true, lt-ltb, le-ltb}
use Rattle.std.proofs.lemmas.Bool.Decides.{nat_tests}
use Rattle.ak_base.specs.declared.point.Addr.{Addr}
use Rattle.ak_levels.specs.Carries.{carry_of}
use Rattle.ak_levels.proofs.Powers.{carry_divides, carry_counts}
use Rattle.ak_meta.proofs.Levels.{carry_most}
use Rattle.ak_meta.specs.Contents.{rescue_at}
use Rattle.ak_meta.specs.Leaves.{address_at, addresses_from, rescued}
use Rattle.ak_meta.specs.declared.meta.SeriesMeta.{SeriesMeta}
use Rattle.ak_world.specs.Leaves.{Leaf, Series, leaf_at, closed_at}
use Rattle.ak_world.specs.Valid.{AreNumbered}
use Rattle.ak_world.specs.Views.{none, address_of, last_under, rescue_of, rescue_from}

-- ---- A level's address

pub power_some : (k : ℕ) → 0 < 32 ^ k
power_some k = omega (arith, one-le-pow k 32 (omega arith))

-- the second of three, where the first test fails and the second passes, and the third, where both fail
second_of : (a b : Bool) (x y z : ℕ) → a ≡ false → b ≡ true → (if a then x else (if b then y else z)) ≡ y
second_of a b x y z other here = ap (λ (c : Bool). if c then x else (if b then y else z)) other ∙ ap (λ (c : Bool). if c then y else z) here

third_of : (a b : Bool) (x y z : ℕ) → a ≡ false → b ≡ false → (if a then x else (if b then y else z)) ≡ z
third_of a b x y z other others = ap (λ (c : Bool). if c then x else (if b then y else z)) other ∙ ap (λ (c : Bool). if c then y else z) others

-- no node of the level was ever made
pub none_made : (o : SeriesMeta) (s : Series) (k : ℕ) → s.leaves < 32 ^ k → rescue_of o s k ≡ none
none_made o s k few = cond-true (nat_lt s.leaves (32 ^ k)) none _ (lt-ltb s.leaves (32 ^ k) few)

-- its last node was made before the opening
pub made_before : (o : SeriesMeta) (s : Series) (k : ℕ) → 32 ^ k ≤ s.leaves → last_under s.leaves k < o.leaves → rescue_of o s k ≡ rescue_at o.rescue k
made_before o s k some before = second_of _ _ _ _ _ (le-ltb s.leaves (32 ^ k) some) (lt-ltb (last_under s.leaves k) o.leaves before)

-- its last node was made since
pub made_since : (o : SeriesMeta) (s : Series) (k : ℕ) → 32 ^ k ≤ s.leaves → o.leaves ≤ last_under s.leaves k → rescue_of o s k ≡ address_of s.closed (last_under s.leaves k) + k
made_since o s k some since = third_of _ _ _ _ _ (le-ltb s.leaves (32 ^ k) some) (le-ltb (last_under s.leaves k) o.leaves since)

-- the last leaf under the last node is one of the leaves
pub last_below : (m k : ℕ) → 32 ^ k ≤ m → last_under m k < m
last_below m k some = omega (arith, some, power_some k, mul-div-le m (32 ^ k))

-- ---- One leaf more

-- where a power divides the leaves with the new one, that one is the last under the level's last node
last_new : (m k : ℕ) → (m + 1) % 32 ^ k ≡ 0 → (last_under (m + 1) k ≡ m) × (32 ^ k ≤ m + 1)
last_new m k whole =
    let split : 32 ^ k * ((m + 1) / 32 ^ k) + (m + 1) % 32 ^ k ≡ m + 1 = div-add-mod (m + 1) (32 ^ k) in
    (omega (arith, split, whole), le_of_dvd (omega arith) (dvd_of_mod-eq-zero (32 ^ k) whole))

-- else the quotient stays
same_quotient : (m p : ℕ) → 0 < p → (m + 1) % p ≢ 0 → (m + 1) / p ≡ m / p
same_quotient m p some part =
    let q = (m + 1) / p in
    let rest = (m + 1) % p - 1 in
    let split : q * p + (m + 1) % p ≡ m + 1 = div-add-mod' (m + 1) p in
    let small : (m + 1) % p < p = mod-lt (m + 1) some in
    let is : q * p + rest ≡ m = omega (arith, split, part) in
    sym (div-mul-add q p rest (omega (arith, small, some))) ∙ ap (λ (x : ℕ). x / p) is

-- a leaf that is put behind others is found by its number
address_new : (first : ℕ) (leaves : List Leaf) (leaf : Leaf) (m : ℕ) → AreNumbered first leaves → first + length leaves ≤ m → leaf.number ≡ m → address_of (leaves ++ leaf ∷ []) m ≡ leaf.address
address_new first [] leaf m numbers past is =
    let found : (leaf.number == m) ≡ true = grind (arith, nat_tests, is) in
    ap (λ (b : Bool). if b then leaf.address else none) found
address_new first (l ∷ leaves) leaf m numbers past is =
    let other : l.number ≢ m = λ e. omega (arith, e, numbers.0, past) in
    let passed : (l.number == m) ≡ false = grind (arith, nat_tests, other) in
    ap (λ (b : Bool). if b then l.address else address_of (leaves ++ leaf ∷ []) m) passed
    ∙ address_new (suc first) leaves leaf m numbers.1 (omega (arith, past)) is

-- and the others as before
address_old : (leaves : List Leaf) (leaf : Leaf) (m : ℕ) → leaf.number ≢ m → address_of (leaves ++ leaf ∷ []) m ≡ address_of leaves m
address_old [] leaf m other =
    let passed : (leaf.number == m) ≡ false = grind (arith, nat_tests, other) in
    ap (λ (b : Bool). if b then leaf.address else none) passed
address_old (l ∷ leaves) leaf m other = ap (λ (a : ℕ). if l.number == m then l.address else a) (address_old leaves leaf m other)

-- a level up to the carry gets the address of its new node
low_level : (o : SeriesMeta) (s : Series) (first a k : ℕ) → AreNumbered first s.closed → first + length s.closed ≡ s.leaves → o.leaves ≤ s.leaves → k ≤ carry_of s.leaves → rescue_of o (closed_at s a) k ≡ a + k
low_level o s first a k numbers count most low =
    let m = s.leaves in
    let few : k ≤ 10 = omega (arith, low, carry_most m) in
    let new = last_new m k (carry_divides m (carry_of m) k refl few low) in
    let found : address_of (s.closed ++ leaf_at s a ∷ []) m ≡ a = address_new first s.closed (leaf_at s a) m numbers (omega (arith, count)) refl in
    made_since o (closed_at s a) k new.1 (omega (arith, new.0, most))
    ∙ ap (λ (x : ℕ). address_of (s.closed ++ leaf_at s a ∷ []) x + k) new.0
    ∙ ap (λ (x : ℕ). x + k) found

-- a level above it keeps its address
high_level : (o : SeriesMeta) (s : Series) (a k : ℕ) → k ≤ 10 → carry_of s.leaves < k → rescue_of o (closed_at s a) k ≡ rescue_of o s k
high_level o s a k few high =
    let m = s.leaves in
    let p = 32 ^ k in
    let t = closed_at s a in
    let part : (m + 1) % p ≢ 0 = λ e. omega (arith, high, carry_counts m (carry_of m) k refl few e) in
    let other : m + 1 ≢ p = λ e. part (ap (λ (x : ℕ). x % p) e ∙ mod_self p) in
    let same : last_under (m + 1) k ≡ last_under m k = ap (λ (q : ℕ). p * q - 1) (same_quotient m p (power_some k) part) in
    elim (cases_lt m p) [
      | inl less ↦ none_made o t k (omega (arith, less, other)) ∙ sym (none_made o s k less)
      | inr more ↦ elim (cases_lt (last_under m k) o.leaves) [
        | inl before ↦ made_before o t k (omega (arith, more)) (omega (arith, same, before)) ∙ sym (made_before o s k more before)
        | inr since ↦
            let older : m ≢ last_under m k = λ e. omega (arith, e, last_below m k more) in
            made_since o t k (omega (arith, more)) (omega (arith, same, since))
            ∙ ap (λ (x : ℕ). address_of t.closed x + k) same
            ∙ ap (λ (x : ℕ). x + k) (address_old s.closed (leaf_at s a) (last_under m k) older)
            ∙ sym (made_since o s k more since)
      ]
    ]

-- ---- All levels

same_levels : (count k : ℕ) (o : SeriesMeta) (s t : Series) → ((l : ℕ) → k ≤ l → l < k + count → rescue_of o t l ≡ rescue_of o s l) → rescue_from count o t k ≡ rescue_from count o s k
same_levels zero k o s t same = refl
same_levels (suc count) k o s t same =
    ap₂ (λ (x : Addr) (xs : List Addr). x ∷ xs) (ap address_at (same k (omega arith) (omega arith))) (same_levels count (suc k) o s t (λ l from to. same l (omega (arith, from)) (omega (arith, to))))

-- the first levels get the addresses of a group in order, and the others stay
first_levels : (n count k a : ℕ) (o : SeriesMeta) (s t : Series) → n ≤ count → ((i l : ℕ) → l ≡ k + i → i < n → rescue_of o t l ≡ a + i)
    → ((l : ℕ) → k + n ≤ l → l < k + count → rescue_of o t l ≡ rescue_of o s l) → rescue_from count o t k ≡ addresses_from n a ++ drop n (rescue_from count o s k)
first_levels zero count k a o s t fit low high = same_levels count k o s t (λ l from to. high l (omega (arith, from)) to)
first_levels (suc n) zero k a o s t fit low high = absurd (omega (arith, fit))
first_levels (suc n) (suc count) k a o s t fit low high =
    let here : rescue_of o t k ≡ a = (let e : a + 0 ≡ a = omega arith in low 0 k (omega arith) (omega arith) ∙ e) in
    let next : (i l : ℕ) → l ≡ suc k + i → i < n → rescue_of o t l ≡ a + 1 + i = λ i l is within. (let e : a + suc i ≡ a + 1 + i = omega arith in low (suc i) l (omega (arith, is)) (omega (arith, within)) ∙ e) in
    ap₂ (λ (x : Addr) (xs : List Addr). x ∷ xs) (ap address_at here) (first_levels n count (suc k) (a + 1) o s t (omega (arith, fit)) next (λ l from to. high l (omega (arith, from)) (omega (arith, to))))

pub rescue_closed : (o : SeriesMeta) (s : Series) (first a : ℕ) → AreNumbered first s.closed → first + length s.closed ≡ s.leaves → o.leaves ≤ s.leaves → rescue_from 11 o (closed_at s a) 0 ≡ rescued (rescue_from 11 o s 0) (carry_of s.leaves) a
rescue_closed o s first a numbers count most =
    let top = carry_of s.leaves in
    let low : (i l : ℕ) → l ≡ 0 + i → i < top + 1 → rescue_of o (closed_at s a) l ≡ a + i = λ i l is within. (let e : a + l ≡ a + i = omega (arith, is) in low_level o s first a l numbers count most (omega (arith, is, within)) ∙ e) in
    first_levels (top + 1) 11 0 a o s (closed_at s a) (omega (arith, carry_most s.leaves)) low (λ l from to. high_level o s a l (omega (arith, to)) (omega (arith, from)))
