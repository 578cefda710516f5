-- A fold over the levels of what waits, from the highest down.
use Rattle.ak_scene.proofs.Levels.{level_begin, level_end, fit_gap}
use Rattle.std.proofs.Common.{◌≡◌, ◌⊎◌, inl, inr, ◌∙◌, ℕ, suc, ◌+◌, ◌-◌, ◌*◌, ◌^◌, ◌≤◌, List, [], ◌++◌, length, Option, None, Result, Ok, sym, ap, subst, arith}
use Rattle.std.proofs.Math.Nat.{mul-le-mul_right}
use Rattle.std.specs.Result.{IfOk}
use Rattle.ak_base.specs.declared.point.Point.{Point}
use Rattle.ak_base.specs.declared.stop.Stop.{Stop}
use Rattle.ak_scene.proofs.InScene.{double_none, stretches}
use Rattle.ak_fold.specs.Folded.{IsFolded}
use Rattle.ak_scene.specs.Scenes.{IsFit}
use Rattle.ak_forest.specs.Numbers.{made, digit}
use Rattle.ak_forest.proofs.Arith.{times_le}
use Rattle.ak_host.specs.Moments.{HostState}
use Rattle.ak_image.specs.Blocks.{Seen}
use Rattle.ak_image.specs.Trees.{points_between}
use Rattle.ak_select.proofs.Chosen.{chosen_append}
use Rattle.ak_select.proofs.Crossed.{borders_join}
use Rattle.ak_select.specs.Costs.{borders}
use Rattle.ak_select.specs.Windows.{chosen, summed}
use Rattle.ak_select.specs.Stretches.{AreStretches}
use Rattle.ak_base.specs.declared.filter.Filter.{Filter}
use Rattle.ak_select.specs.declared.window.Window.{Window}
use Rattle.ak_summary.specs.declared.summary.Summary.{Summary}
use Rattle.ak_volumes.specs.Ordinals.{Ordinals}
use Rattle.ak_world.specs.Leaves.{Leaf}
use Rattle.ak_inner.specs.declared.reference.Ref.{Ref}
use Rattle.ak_levels.specs.Pending.{Lists, pending_at}

module _ (low leaves : ℕ) (stretch : ℕ → ℕ → List Point) (are : AreStretches low leaves stretch) (w : Window) (f : Filter) where
  -- what is left out between two levels is dead
  gap_none : (a b : ℕ) → (b ≡ a) ⊎ (b ≤ low) → stretch a b ≡ []
  gap_none a b (inl same) = ap (stretch a) same ∙ double_none (stretch a a) (are.joins a a a (omega arith) (omega arith))
  gap_none a b (inr dead) = are.gone a b dead

  pub level_on : (a b e k : ℕ) (old mid new : HostState) (all : Option Summary) (result : Result (Option Summary) Stop) → a ≤ b → b ≤ e → k ≤ 10 → (b ≡ a) ⊎ (b ≤ low)
      → IsFolded w f [] (stretch 0 a) (11 * borders w low stretch 0 a) old mid (Ok all)
      → IsFolded w f ([] ++ chosen w f (stretch 0 a)) (stretch b e) (suc k * borders w low stretch b e) mid new result
      → IsFolded w f [] (stretch 0 e) (11 * borders w low stretch 0 e) old new result
  level_on a b e k old mid new all result ab be top gap first next =
      let right : stretch a e ≡ stretch b e = sym (are.joins a b e ab be) ∙ ap (λ (ps : List Point). ps ++ stretch b e) (gap_none a b gap) in
      let whole : stretch 0 a ++ stretch b e ≡ stretch 0 e = ap (λ (ps : List Point). stretch 0 a ++ ps) (sym right) ∙ are.joins 0 a e (omega arith) (omega (arith, ab, be)) in
      let all_is : chosen w f (stretch 0 a) ++ chosen w f (stretch b e) ≡ chosen w f (stretch 0 e) = sym (chosen_append w f (stretch 0 a) (stretch b e)) ∙ ap (chosen w f) whole in
      let before : borders w low stretch b e ≤ borders w low stretch a e = omega (arith, borders_join w low leaves stretch are a b e ab be) in
      let joins : borders w low stretch 0 a + borders w low stretch a e ≤ borders w low stretch 0 e = borders_join w low leaves stretch are 0 a e (omega arith) (omega (arith, ab, be)) in
      record {
        value = subst (λ (ps : List Point). IfOk result (λ s. s ≡ summed ps)) all_is next.value;
        sound = next.sound;
        few = λ open_is. omega (arith, first.few open_is, next.few open_is, before, joins, mul-le-mul_right (borders w low stretch b e) top);
      }

  -- before the first level
  pub level_none : (a : ℕ) (old : HostState) → a ≡ 0 → IsFolded w f [] (stretch 0 a) (11 * borders w low stretch 0 a) old old (Ok None)
  level_none a old is =
      let none : stretch 0 a ≡ [] = ap (stretch 0) is ∙ are.gone 0 0 (omega arith) in
      record {
        value = sym (ap (λ (ps : List Point). summed (chosen w f ps)) none);
        sound = tt;
        few = λ open_is. omega arith;
      }

-- ---- What waits on one level

module _ (o : Ordinals) (seen : Seen) (series n : ℕ) (v : Lists) (leaves : List Leaf) (written : List Point) (fit : IsFit o seen series n v leaves written)
    (k len first : ℕ) (refs : List Ref) (top : k ≤ 10) (refs_are : refs ≡ pending_at v k) (long : len ≡ length refs) (few : len ≤ digit 32 k n) (first_is : first ≡ made 32 k n - len) where
  pub fit_level : (w : Window) (f : Filter) (old mid new : HostState) (all : Option Summary) (result : Result (Option Summary) Stop)
      → IsFolded w f [] (points_between leaves 0 (made 32 (suc k) n * 32 ^ suc k)) (11 * borders w (fit.scene.known.leaves - length leaves) (points_between leaves) 0 (made 32 (suc k) n * 32 ^ suc k)) old mid (Ok all)
      → IsFolded w f ([] ++ chosen w f (points_between leaves 0 (made 32 (suc k) n * 32 ^ suc k))) (points_between leaves (first * 32 ^ k) ((first + len) * 32 ^ k))
      (suc k * borders w (fit.scene.known.leaves - length leaves) (points_between leaves) (first * 32 ^ k) ((first + len) * 32 ^ k)) mid new result
      → IsFolded w f [] (points_between leaves 0 (made 32 k n * 32 ^ k)) (11 * borders w (fit.scene.known.leaves - length leaves) (points_between leaves) 0 (made 32 k n * 32 ^ k)) old new result
  fit_level w f old mid new all result before next =
      let low = fit.scene.known.leaves - length leaves in
      let all_are : first + len ≡ made 32 k n = level_end n k len first few first_is in
      let on = level_on low fit.scene.known.leaves (points_between leaves) (stretches o seen series leaves fit.scene) w f (made 32 (suc k) n * 32 ^ suc k) (first * 32 ^ k) ((first + len) * 32 ^ k) k old mid new all result
      (level_begin n k len first few first_is) (times_le first (first + len) (32 ^ k) (omega arith)) top (fit_gap o seen series n v leaves written fit k len first refs top refs_are long few first_is) before next in
      subst (λ (e : ℕ). IsFolded w f [] (points_between leaves 0 (e * 32 ^ k)) (11 * borders w low (points_between leaves) 0 (e * 32 ^ k)) old new result) all_are on
