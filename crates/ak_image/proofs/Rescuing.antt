-- What a record says of a series once a leaf is entered.
use Rattle.std.proofs.Common.{inl, inr, ◌≡◌, ◌+◌, ◌<◌, ◌≤◌, ℕ, zero, suc, List, [], ◌∷◌, ◌++◌, length, drop, refl, sym, ◌∙◌, subst, arith}
use Rattle.std.proofs.lemmas.Bool.{cases_lt}
use Rattle.std.proofs.lemmas.Bool.Decides.{nat_tests}
use Rattle.ak_base.specs.declared.point.Addr.{Addr}
use Rattle.ak_forest.specs.Numbers.{carry}
use Rattle.ak_image.proofs.Lifting.{carry_within, carry_past}
use Rattle.ak_image.specs.Blocks.{Seen}
use Rattle.ak_image.specs.Chains.{IsChain}
use Rattle.ak_image.specs.Laid.{AreLaid, rescue_in, last_in, kept_in, series_in}
use Rattle.ak_image.specs.Trees.{IsTreeOf, AreTreed, point_of}
use Rattle.ak_levels.specs.Carries.{carry_of}
use Rattle.ak_meta.proofs.Levels.{carry_most}
use Rattle.ak_meta.specs.Contents.{rescue_at}
use Rattle.ak_meta.specs.Leaves.{leaves_at, addresses_from, with_leaf}
use Rattle.ak_meta.specs.declared.meta.SeriesMeta.{SeriesMeta}
use Rattle.ak_volumes.specs.Ordinals.{Ordinals}
use Rattle.ak_world.specs.Leaves.{Leaf}
use Rattle.ak_world.specs.Views.{none}

-- ---- Rescue addresses

rescued_new : (count a k : ℕ) (rescue : List Addr) → k < count → rescue_at (addresses_from count a ++ rescue) k ≡ a + k
rescued_new zero a k rescue h = absurd (omega arith)
rescued_new (suc count) a zero rescue h = omega arith
rescued_new (suc count) a (suc k) rescue h = omega (arith, rescued_new count (a + 1) k rescue (omega arith))

rescued_old : (count a k : ℕ) (rescue : List Addr) → count ≤ k → rescue_at (addresses_from count a ++ drop count rescue) k ≡ rescue_at rescue k
rescued_old zero a k rescue h = refl
rescued_old (suc count) a zero rescue h = absurd (omega arith)
rescued_old (suc count) a (suc k) [] h = none_behind count (a + 1) k (omega arith)
  where
    none_behind : (n b j : ℕ) → n ≤ j → rescue_at (addresses_from n b ++ []) j ≡ 0
    none_behind zero b j g = refl
    none_behind (suc n) b zero g = absurd (omega arith)
    none_behind (suc n) b (suc j) g = none_behind n (b + 1) j (omega arith)
rescued_old (suc count) a (suc k) (r ∷ rescue) h = rescued_old count (a + 1) k rescue (omega arith)

pub point_low : (rescue : List Addr) (k : ℕ) → k ≤ 10 → point_of rescue k ≡ rescue_at rescue k
point_low rescue k low = grind (arith, nat_tests)

point_high : (rescue : List Addr) (k : ℕ) → 10 < k → point_of rescue k ≡ none
point_high rescue k high = grind (arith, nat_tests)

pub point_new : (known : SeriesMeta) (last a m k : ℕ) → known.leaves ≡ m → k ≤ carry 32 m → point_of (with_leaf known last a).rescue k ≡ a + k
point_new known last a m k is h =
    let within : k ≤ carry_of known.leaves = subst (λ (x : ℕ). k ≤ carry_of x) (sym is) (carry_within m k h) in
    point_low (with_leaf known last a).rescue k (omega (arith, within, carry_most known.leaves))
    ∙ rescued_new (carry_of known.leaves + 1) a k (drop (carry_of known.leaves + 1) known.rescue) (omega (arith, within))

pub point_old : (known : SeriesMeta) (last a m k : ℕ) → known.leaves ≡ m → carry 32 m < k → point_of (with_leaf known last a).rescue k ≡ point_of known.rescue k
point_old known last a m k is h =
    let past : carry_of known.leaves < k = subst (λ (x : ℕ). carry_of x < k) (sym is) (carry_past m k h) in
    elim (cases_lt 10 k) [
      | inl high ↦ point_high (with_leaf known last a).rescue k high ∙ sym (point_high known.rescue k high)
      | inr low ↦ point_low (with_leaf known last a).rescue k low ∙ rescued_old (carry_of known.leaves + 1) a k known.rescue (omega (arith, past)) ∙ sym (point_low known.rescue k low)
    ]

-- ---- One series of all

pub leaves_past : (series : List SeriesMeta) (n : ℕ) → length series ≤ n → leaves_at series n ≡ 0
leaves_past [] n past = refl
leaves_past (s ∷ series) zero past = absurd (omega arith)
leaves_past (s ∷ series) (suc n) past = leaves_past series n (omega arith)

pub leaves_in : (series : List SeriesMeta) (n : ℕ) → (series_in series n).leaves ≡ leaves_at series n
leaves_in [] n = refl
leaves_in (s ∷ series) zero = refl
leaves_in (s ∷ series) (suc n) = leaves_in series n

pub last_same : (series : List SeriesMeta) (n : ℕ) → last_in series n ≡ (series_in series n).last
last_same [] n = refl
last_same (s ∷ series) zero = refl
last_same (s ∷ series) (suc n) = last_same series n

pub rescue_same : (series : List SeriesMeta) (n : ℕ) → n < length series → rescue_in series n ≡ rescue_at (series_in series n).rescue 0
rescue_same [] n within = absurd (omega arith)
rescue_same (s ∷ series) zero within = refl
rescue_same (s ∷ series) (suc n) within = rescue_same series n (omega arith)

pub chain_in : (seen : Seen) (lo : ℕ) (fills : List ℕ) (k n : ℕ) (series : List SeriesMeta) (kept : List (List Leaf)) → n < length series → AreLaid seen lo fills k series kept → IsChain seen lo (k + n) (series_in series n) (kept_in kept n)
chain_in seen lo fills k n [] kept within are = absurd (omega arith)
chain_in seen lo fills k zero (s ∷ series) kept within are =
    subst (λ (all : List (List Leaf)). IsChain seen lo (k + 0) s (kept_in all 0)) (sym are.2)
    (subst (λ (x : ℕ). IsChain seen lo x s are.0) (let e : k ≡ k + 0 = omega arith in e) are.4)
chain_in seen lo fills k (suc n) (s ∷ series) kept within are =
    subst (λ (all : List (List Leaf)). IsChain seen lo (k + suc n) (series_in series n) (kept_in all (suc n))) (sym are.2)
    (subst (λ (x : ℕ). IsChain seen lo x (series_in series n) (kept_in are.1 n)) (let e : suc k + n ≡ k + suc n = omega arith in e) (chain_in seen lo fills (suc k) n series are.1 (omega arith) are.5))

pub tree_in : (o : Ordinals) (seen : Seen) (k n : ℕ) (series : List SeriesMeta) (kept : List (List Leaf)) → n < length series → AreTreed o seen k series kept → IsTreeOf o seen (k + n) (series_in series n) (kept_in kept n)
tree_in o seen k n [] kept within are = absurd (omega arith)
tree_in o seen k n (s ∷ series) [] within are = absurd are
tree_in o seen k zero (s ∷ series) (leaves ∷ kept) within are = let same : k ≡ k + 0 = omega arith in subst (λ (x : ℕ). IsTreeOf o seen x s leaves) same are.0
tree_in o seen k (suc n) (s ∷ series) (leaves ∷ kept) within are =
    let same : suc k + n ≡ k + suc n = omega arith in
    subst (λ (x : ℕ). IsTreeOf o seen x (series_in series n) (kept_in kept n)) same (tree_in o seen (suc k) n series kept (omega arith) are.1)
