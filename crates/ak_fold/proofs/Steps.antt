-- What a fold comes to at one reference, at one node and at references in a row.
use Rattle.std.proofs.Common.{◌≡◌, ◌∙◌, ℕ, suc, ◌+◌, ◌-◌, ◌*◌, ◌^◌, ◌<◌, ◌≤◌, List, [], ◌++◌, Option, Some, Result, Ok, sym, ap, ap₂, subst, arith, suc-mul, append_assoc}
use Rattle.std.proofs.Math.Nat.{mul-le-mul_left}
use Rattle.std.specs.Prelude.{⊤}
use Rattle.std.specs.Result.{IfOk, IsErrAnd}
use Rattle.ak_base.specs.declared.point.Point.{Point}
use Rattle.ak_base.specs.declared.stop.Stop.{Stop}
use Rattle.ak_scene.proofs.InScene.{double_none}
use Rattle.ak_scene.proofs.Stopped.{no_value}
use Rattle.ak_fold.specs.Folded.{IsFolded}
use Rattle.ak_forest.specs.Numbers.{end}
use Rattle.ak_forest.proofs.Arith.{times_le, times_one}
use Rattle.ak_host.specs.Moments.{HostState}
use Rattle.ak_select.proofs.Crossed.{borders_join}
use Rattle.ak_select.proofs.Summed.{summed_more, summed_same}
use Rattle.ak_select.proofs.Trees.{family_points, family_borders, row_points, row_reads}
use Rattle.ak_select.specs.Costs.{borders}
use Rattle.ak_base.specs.Selections.{IsOpen}
use Rattle.ak_select.specs.Windows.{chosen, summed, combined}
use Rattle.ak_select.specs.Stretches.{AreStretches}
use Rattle.ak_base.specs.declared.filter.Filter.{Filter}
use Rattle.ak_select.specs.declared.window.Window.{Window}
use Rattle.ak_summary.specs.declared.summary.Summary.{Summary}

-- ---- In a row

module _ (low leaves : ℕ) (home : ℕ → ℕ) (stretch : ℕ → ℕ → List Point) (are : AreStretches low leaves stretch) (w : Window) (f : Filter) where
  -- references so far and the next
  pub row_on : (lo k c i : ℕ) (before : List Point) (old mid new : HostState) (all : Option Summary) (result : Result (Option Summary) Stop)
      → IsFolded w f before (stretch (c * 32 ^ k) ((c + i) * 32 ^ k)) (suc k * borders w low stretch (c * 32 ^ k) ((c + i) * 32 ^ k)) old mid (Ok all)
      → IsFolded w f (before ++ chosen w f (stretch (c * 32 ^ k) ((c + i) * 32 ^ k))) (stretch ((c + i) * 32 ^ k) (end 32 k (c + i)))
      (suc k * borders w low stretch ((c + i) * 32 ^ k) (end 32 k (c + i))) mid new result
      → IsFolded w f before (stretch (c * 32 ^ k) ((c + suc i) * 32 ^ k)) (suc k * borders w low stretch (c * 32 ^ k) ((c + suc i) * 32 ^ k)) old new result
  row_on lo k c i before old mid new all result first next =
      let a : List Point = chosen w f (stretch (c * 32 ^ k) ((c + i) * 32 ^ k)) in
      let b : List Point = chosen w f (stretch ((c + i) * 32 ^ k) (end 32 k (c + i))) in
      let whole : (before ++ a) ++ b ≡ before ++ chosen w f (stretch (c * 32 ^ k) ((c + suc i) * 32 ^ k)) =
      append_assoc before a b ∙ ap (λ (ps : List Point). before ++ ps) (row_points 32 lo low leaves home stretch (omega arith) are w f k c i) in
      record {
        value = subst (λ (ps : List Point). IfOk result (λ s. s ≡ summed ps)) whole next.value;
        sound = next.sound;
        few = λ open_is.
            let one = suc k * borders w low stretch (c * 32 ^ k) ((c + i) * 32 ^ k) in
            let two = suc k * borders w low stretch ((c + i) * 32 ^ k) (end 32 k (c + i)) in
            omega (arith, first.few open_is, next.few open_is, row_reads 32 lo low leaves home stretch (omega arith) are w f k c i one two (omega arith) (omega arith));
      }

  -- no references yet
  pub row_none : (k c : ℕ) (before : List Point) (old : HostState) (so_far : Option Summary) (cost : ℕ) → so_far ≡ summed before → IsFolded w f before (stretch (c * 32 ^ k) ((c + 0) * 32 ^ k)) cost old old (Ok so_far)
  row_none k c before old so_far cost is =
      let same : (c + 0) * 32 ^ k ≡ c * 32 ^ k = ap (λ (x : ℕ). x * 32 ^ k) (omega arith) in
      let joins : stretch (c * 32 ^ k) (c * 32 ^ k) ++ stretch (c * 32 ^ k) (c * 32 ^ k) ≡ stretch (c * 32 ^ k) (c * 32 ^ k) = are.joins (c * 32 ^ k) (c * 32 ^ k) (c * 32 ^ k) (omega arith) (omega arith) in
      let none : stretch (c * 32 ^ k) ((c + 0) * 32 ^ k) ≡ [] = ap (stretch (c * 32 ^ k)) same ∙ double_none (stretch (c * 32 ^ k) (c * 32 ^ k)) joins in
      record {
        value = summed_same so_far before (chosen w f (stretch (c * 32 ^ k) ((c + 0) * 32 ^ k))) (ap (chosen w f) none) is;
        sound = tt;
        few = λ open_is. omega arith;
      }

  -- where it stops in the midst of them
  pub row_stops : (k c i n : ℕ) (before : List Point) (old new : HostState) (result : Result (Option Summary) Stop) → i ≤ n → IsErrAnd result (λ e. ⊤)
      → IsFolded w f before (stretch (c * 32 ^ k) ((c + i) * 32 ^ k)) (suc k * borders w low stretch (c * 32 ^ k) ((c + i) * 32 ^ k)) old new result
      → IsFolded w f before (stretch (c * 32 ^ k) ((c + n) * 32 ^ k)) (suc k * borders w low stretch (c * 32 ^ k) ((c + n) * 32 ^ k)) old new result
  row_stops k c i n before old new result less err is =
      let a = c * 32 ^ k in
      let m = (c + i) * 32 ^ k in
      let e = (c + n) * 32 ^ k in
      let more : borders w low stretch a m + borders w low stretch m e ≤ borders w low stretch a e =
      borders_join w low leaves stretch are a m e (times_le c (c + i) (32 ^ k) (omega arith)) (times_le (c + i) (c + n) (32 ^ k) (omega (arith, less))) in
      let fewer : borders w low stretch a m ≤ borders w low stretch a e = omega (arith, more) in
      record {
        value = no_value _ _ result err;
        sound = is.sound;
        few = λ open_is. omega (arith, is.few open_is, mul-le-mul_left (suc k) fewer);
      }

  -- ---- One node

  pub node_done : (lo k number n first len : ℕ) (before : List Point) (old mid new : HostState) (result : Result (Option Summary) Stop)
      → n ≤ 32 → (n < 32 → (suc number * 32 - n) * 32 ^ k ≤ low) → low < end 32 (suc k) number → first ≡ suc number * 32 - n → len ≡ n → mid.reads ≤ old.reads + 1
      → IsFolded w f before (stretch (first * 32 ^ k) ((first + len) * 32 ^ k)) (suc k * borders w low stretch (first * 32 ^ k) ((first + len) * 32 ^ k)) mid new result
      → IsFolded w f before (stretch (number * 32 ^ suc k) (end 32 (suc k) number)) (1 + suc k * borders w low stretch (number * 32 ^ suc k) (end 32 (suc k) number)) old new result
  node_done lo k number n first len before old mid new result most missing live first_is len_is one is =
      let c = suc number * 32 - n in
      let all : stretch (first * 32 ^ k) ((first + len) * 32 ^ k) ≡ stretch (c * 32 ^ k) ((c + n) * 32 ^ k) = ap₂ (λ (x y : ℕ). stretch (x * 32 ^ k) ((x + y) * 32 ^ k)) first_is len_is in
      let cost : borders w low stretch (first * 32 ^ k) ((first + len) * 32 ^ k) ≡ borders w low stretch (c * 32 ^ k) ((c + n) * 32 ^ k) = ap₂ (λ (x y : ℕ). borders w low stretch (x * 32 ^ k) ((x + y) * 32 ^ k)) first_is len_is in
      let points = all ∙ family_points 32 lo low leaves home stretch (omega arith) are w f k number n most missing live in
      let fewer : borders w low stretch (first * 32 ^ k) ((first + len) * 32 ^ k) ≤ borders w low stretch (number * 32 ^ suc k) (end 32 (suc k) number) =
      omega (arith, cost, family_borders 32 lo low leaves home stretch (omega arith) are w f k number n most) in
      record {
        value = subst (λ (ps : List Point). IfOk result (λ s. s ≡ summed (before ++ chosen w f ps))) points is.value;
        sound = is.sound;
        few = λ open_is. omega (arith, one, is.few open_is, mul-le-mul_left (suc k) fewer);
      }

  -- ---- One reference

  -- nothing is selected, or nothing is there
  pub ref_none : (before points : List Point) (old : HostState) (so_far : Option Summary) (cost : ℕ) → chosen w f points ≡ [] → so_far ≡ summed before → IsFolded w f before points cost old old (Ok so_far)
  ref_none before points old so_far cost none is = record {
    value = summed_same so_far before (chosen w f points) none is;
    sound = tt;
    few = λ open_is. omega arith;
  }

  -- all is, and the reference tells its summary
  pub ref_whole : (before points : List Point) (old : HostState) (so_far : Option Summary) (s result : Summary) (cost : ℕ) → summed (chosen w f points) ≡ Some s → so_far ≡ summed before
      → Some result ≡ combined so_far (Some s) → IsFolded w f before points cost old old (Ok (Some result))
  ref_whole before points old so_far s result cost whole is joins = record {
    value = summed_more so_far (Some result) before (chosen w f points) is (joins ∙ ap (combined so_far) (sym whole));
    sound = tt;
    few = λ open_is. omega arith;
  }

  -- a border runs through it
  pub ref_leaf : (number : ℕ) (before : List Point) (old new : HostState) (result : Result (Option Summary) Stop) → (IsOpen f → 1 ≤ borders w low stretch (number * 32 ^ 0) (end 32 0 number))
      → IsFolded w f before (stretch number (suc number)) 1 old new result
      → IsFolded w f before (stretch (number * 32 ^ 0) (end 32 0 number)) (1 * borders w low stretch (number * 32 ^ 0) (end 32 0 number)) old new result
  ref_leaf number before old new result some is =
      let points : stretch number (suc number) ≡ stretch (number * 32 ^ 0) (end 32 0 number) = ap₂ stretch (sym (times_one 32 number)) (sym (times_one 32 (suc number))) in
      record {
        value = subst (λ (ps : List Point). IfOk result (λ s. s ≡ summed (before ++ chosen w f ps))) points is.value;
        sound = is.sound;
        few = λ open_is. omega (arith, is.few open_is, some open_is);
      }

  pub ref_node : (k number : ℕ) (before points : List Point) (old new : HostState) (result : Result (Option Summary) Stop) (b : ℕ) → (IsOpen f → 1 ≤ b)
      → IsFolded w f before points (1 + k * b) old new result → IsFolded w f before points (suc k * b) old new result
  ref_node k number before points old new result b some is = record {
    value = is.value;
    sound = is.sound;
    few = λ open_is. omega (arith, is.few open_is, some open_is, suc-mul k b);
  }
