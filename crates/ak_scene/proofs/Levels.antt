-- What waits at each level, from the highest down, and all that is kept.
use Rattle.std.proofs.Common.{◌≡◌, ◌⊎◌, inl, inr, ◌∙◌, ℕ, suc, ◌+◌, ◌-◌, ◌*◌, ◌/◌, ◌^◌, ◌<◌, ◌≤◌, max, List, [], ◌∷◌, ◌++◌, length, map, sym, ap, subst, arith, div-mul-le_self}
use Rattle.std.proofs.lemmas.Bool.{cases_lt}
use Rattle.std.specs.List.{AllByRecursion}
use Rattle.ak_base.specs.Points.{IsPoint}
use Rattle.ak_base.specs.declared.point.Point.{Point}
use Rattle.ak_scene.proofs.InScene.{all_between}
use Rattle.ak_scene.specs.Scenes.{IsFit}
use Rattle.ak_forest.specs.Numbers.{made, digit}
use Rattle.ak_forest.specs.Tree.{Children, Waits}
use Rattle.ak_forest.proofs.Arith.{times_le, times_one, power_up, made_split, made_zero}
use Rattle.ak_image.specs.Blocks.{Seen}
use Rattle.ak_image.specs.Chains.{AreLinked}
use Rattle.ak_image.specs.Trees.{points_between, total_of}
use Rattle.ak_select.proofs.Chosen.{chosen_append, selected_chosen}
use Rattle.ak_select.specs.Windows.{chosen, is_within}
use Rattle.ak_base.specs.declared.filter.Filter.{Filter}
use Rattle.ak_select.specs.declared.window.Window.{Window}
use Rattle.ak_volumes.specs.Ordinals.{Ordinals}
use Rattle.ak_world.specs.Leaves.{Leaf, points_of}
use Rattle.ak_world.specs.Views.{address_of}
use Rattle.std.proofs.lemmas.List.{length-map}
use Rattle.ak_image.specs.Nodes.{reference_of}
use Rattle.ak_inner.specs.declared.reference.Ref.{Ref}
use Rattle.ak_levels.specs.Pending.{Lists, pending_at}
use Rattle.ak_base.specs.Selections.{selected, range_has}
use Rattle.ak_base.specs.declared.range.Range.{Range}

-- where the nodes of a level begin that wait, and where those of the levels above it end
pub level_first : (n k len first : ℕ) → len ≤ digit 32 k n → first ≡ made 32 k n - len → made 32 (suc k) n * 32 ≤ first
level_first n k len first few is = omega (arith, made_split 32 k n, few, is)

pub level_begin : (n k len first : ℕ) → len ≤ digit 32 k n → first ≡ made 32 k n - len → made 32 (suc k) n * 32 ^ suc k ≤ first * 32 ^ k
level_begin n k len first few is =
    omega (arith, power_up 32 k (made 32 (suc k) n), times_le (made 32 (suc k) n * 32) first (32 ^ k) (level_first n k len first few is))

pub level_end : (n k len first : ℕ) → len ≤ digit 32 k n → first ≡ made 32 k n - len → first + len ≡ made 32 k n
level_end n k len first few is = omega (arith, made_split 32 k n, few, is)

-- the numbers of the leaves below what waits on a level
pub last_level : (n b : ℕ) → b ≡ 11 → n / 32 ^ (11 - b) * 32 ^ (11 - b) ≡ n
last_level n b is =
    let zero_is : 11 - b ≡ 0 = omega (arith, is) in
    ap (λ (k : ℕ). n / 32 ^ k * 32 ^ k) zero_is ∙ times_one 32 (made 32 0 n) ∙ made_zero 32 n

-- ---- What waits on one level

module _ (o : Ordinals) (seen : Seen) (series n : ℕ) (v : Lists) (leaves : List Leaf) (written : List Point) (fit : IsFit o seen series n v leaves written)
    (k len first : ℕ) (refs : List Ref) (top : k ≤ 10) (refs_are : refs ≡ pending_at v k) (long : len ≡ length refs) (few : len ≤ digit 32 k n) (first_is : first ≡ made 32 k n - len) where
  waits : Waits 32 o.lo (fit.scene.known.leaves - length leaves) (address_of leaves) (total_of leaves) fit.base n k (map reference_of refs)
  waits = subst (λ (rs : List Ref). Waits 32 o.lo (fit.scene.known.leaves - length leaves) (address_of leaves) (total_of leaves) fit.base n k (map reference_of rs)) (sym refs_are)
      (subst (λ (m : ℕ). Waits 32 o.lo (fit.scene.known.leaves - length leaves) (address_of leaves) (total_of leaves) fit.base m k (map reference_of (pending_at v k))) fit.count_is (fit.planted.grown.waits k))

  pub first_from : first ≡ max (made 32 k fit.base) (made 32 (suc k) n * 32)
  first_from = omega (arith, waits.all, length-map refs reference_of, long, first_is)

  pub fit_children : Children 32 o.lo (fit.scene.known.leaves - length leaves) (address_of leaves) (total_of leaves) k first (map reference_of refs)
  fit_children = subst (λ (c : ℕ). Children 32 o.lo (fit.scene.known.leaves - length leaves) (address_of leaves) (total_of leaves) k c (map reference_of refs)) (sym first_from) waits.each

  pub fit_gap : (first * 32 ^ k ≡ made 32 (suc k) n * 32 ^ suc k) ⊎ (first * 32 ^ k ≤ fit.scene.known.leaves - length leaves)
  fit_gap = elim (cases_lt (made 32 k fit.base) (made 32 (suc k) n * 32)) [
    | inl below ↦
        let is : first ≡ made 32 (suc k) n * 32 = omega (arith, first_from, below) in
        inl (ap (λ (x : ℕ). x * 32 ^ k) is ∙ sym (power_up 32 k (made 32 (suc k) n)))
    | inr past ↦
        let is : first ≡ made 32 k fit.base = omega (arith, first_from, past) in
        let dead : made 32 k fit.base * 32 ^ k ≤ fit.base = div-mul-le_self fit.base (32 ^ k) in
        inr (omega (arith, ap (λ (x : ℕ). x * 32 ^ k) is, dead, fit.planted.grown.older))
  ]

  pub fit_ends : (first + len) * 32 ^ k ≤ fit.scene.known.leaves
  fit_ends =
      let all : first + len ≡ made 32 k n = level_end n k len first few first_is in
      omega (arith, ap (λ (x : ℕ). x * 32 ^ k) all, div-mul-le_self n (32 ^ k), fit.count_is)

-- ---- All that is kept

pub all_append : (P : Point → Type 0) (ps qs : List Point) → AllByRecursion P ps → AllByRecursion P qs → AllByRecursion P (ps ++ qs)
all_append P [] qs h g = g
all_append P (p ∷ ps) qs h g = (h.0, all_append P ps qs h.1 g)

pub small_points : (ps : List Point) → AllByRecursion IsPoint ps → AllByRecursion (λ p. p.ts < 2 ^ 64) ps
small_points [] each = tt
small_points (p ∷ ps) each = (each.0.ts, small_points ps each.1)

small_leaves : (seen : Seen) (series before last : ℕ) (leaves : List Leaf) → AreLinked seen series before leaves last → AllByRecursion (λ p. p.ts < 2 ^ 64) (points_of leaves)
small_leaves seen series before last [] links = tt
small_leaves seen series before last (x ∷ leaves) links = all_append (λ p. p.ts < 2 ^ 64) x.points (points_of leaves) (small_points x.points links.0.spells.each) (small_leaves seen series x.address last leaves links.1)

module _ (o : Ordinals) (seen : Seen) (series n : ℕ) (v : Lists) (leaves : List Leaf) (written : List Point) (fit : IsFit o seen series n v leaves written) (w : Window) (r : Range) (f : Filter)
    (same : (ts : ℕ) → ts < 2 ^ 64 → is_within w ts ≡ range_has r ts) where
  -- the points of the leaves and of the open one
  pub all_selected : (e : ℕ) → e ≡ n → AllByRecursion (λ p. p.ts < 2 ^ 64) written → ([] ++ chosen w f (points_between leaves 0 e)) ++ chosen w f written ≡ selected r f (points_of leaves ++ written)
  all_selected e is small =
      let whole : points_between leaves 0 e ≡ points_of leaves =
      all_between fit.scene.chain.first leaves 0 e fit.scene.chain.numbers (omega arith) (omega (arith, fit.scene.chain.count, fit.count_is, is)) in
      ap (λ (ps : List Point). chosen w f ps ++ chosen w f written) whole ∙ sym (chosen_append w f (points_of leaves) written)
      ∙ selected_chosen w r f (points_of leaves ++ written) same (all_append (λ p. p.ts < 2 ^ 64) (points_of leaves) written (small_leaves seen series fit.scene.chain.before _ leaves fit.scene.chain.links) small)
