-- Nodes by their numbers.
use Rattle.std.proofs.Common.{◌≡◌, ◌∙◌, ℕ, suc, ◌+◌, ◌-◌, ◌*◌, ◌/◌, ◌^◌, ◌<◌, ◌≤◌, List, length, map, get_or, sym, ap, subst, arith, div-mul-le_self}
use Rattle.std.proofs.lemmas.List.{length-map}
use Rattle.ak_base.specs.declared.point.Point.{Point}
use Rattle.ak_scene.proofs.Levels.{level_end, fit_children, first_from}
use Rattle.ak_scene.proofs.Links.{child_ref}
use Rattle.ak_scene.specs.Scenes.{IsFit}
use Rattle.ak_forest.specs.Numbers.{end, made, digit}
use Rattle.ak_forest.specs.Tree.{Child, Children, Family}
use Rattle.ak_forest.proofs.Arith.{times_le, power_up}
use Rattle.ak_image.specs.Blocks.{Seen}
use Rattle.ak_image.specs.Nodes.{reference_of}
use Rattle.ak_image.specs.Trees.{total_of}
use Rattle.ak_inner.specs.declared.reference.Ref.{Ref}
use Rattle.ak_levels.specs.Pending.{Lists, pending_at}
use Rattle.ak_summary.specs.Folds.{no_summary}
use Rattle.ak_summary.specs.declared.summary.Summary.{Summary}
use Rattle.ak_volumes.specs.Ordinals.{Ordinals}
use Rattle.ak_world.specs.Leaves.{Leaf}
use Rattle.ak_world.specs.Views.{address_of}

-- a node ends no later than the node above it
pub end_above : (k number : ℕ) → end 32 k number ≤ end 32 (suc k) (number / 32)
end_above k number = omega (arith, power_up 32 k (suc (number / 32)), times_le (suc number) (suc (number / 32) * 32) (32 ^ k) (omega arith))

module _ (o : Ordinals) (seen : Seen) (series n : ℕ) (v : Lists) (leaves : List Leaf) (written : List Point) (fit : IsFit o seen series n v leaves written)
    (k len first : ℕ) (refs : List Ref) (top : k ≤ 10) (refs_are : refs ≡ pending_at v k) (long : len ≡ length refs) (few : len ≤ digit 32 k n) (first_is : first ≡ made 32 k n - len) (number : ℕ) where
  -- a node that waits
  pub named_here : (d : Ref) → first ≤ number → number < made 32 k n → Child 32 o.lo (fit.scene.known.leaves - length leaves) (address_of leaves) (total_of leaves) k number (reference_of (get_or refs (number - first) d))
  named_here d from to =
      let all : first + len ≡ made 32 k n = level_end n k len first few first_is in
      let at : first + (number - first) ≡ number = omega (arith, from) in
      subst (λ (j : ℕ). Child 32 o.lo (fit.scene.known.leaves - length leaves) (address_of leaves) (total_of leaves) k j (reference_of (get_or refs (number - first) d))) at
      (child_ref o.lo (fit.scene.known.leaves - length leaves) (address_of leaves) (total_of leaves) k first (number - first) refs d (omega (arith, all, from, to, long))
      (fit_children o seen series n v leaves written fit k len first refs top refs_are long few first_is))

  -- a node before those that wait and behind all that have parents was dead at the opening
  pub dead_before : number < first → made 32 (suc k) n * 32 ≤ number → end 32 k number ≤ fit.scene.known.leaves - length leaves
  dead_before below behind =
      let from = first_from o seen series n v leaves written fit k len first refs top refs_are long few first_is in
      let old : suc number ≤ made 32 k fit.base = omega (arith, from, below, behind) in
      omega (arith, times_le (suc number) (made 32 k fit.base) (32 ^ k) old, div-mul-le_self fit.base (32 ^ k), fit.planted.grown.older)

-- ---- Below a parent

module _ (lo low : ℕ) (home : ℕ → ℕ) (total : ℕ → ℕ → Summary) (k above number n begin : ℕ) (node : List Ref) (long : n ≡ length node) (family : Family 32 lo low home total k above (map reference_of node))
    (begin_is : begin ≡ suc above * 32 - n) (above_is : above ≡ number / 32) where
  pub child_below : (d : Ref) → begin ≤ number → Child 32 lo low home total k number (reference_of (get_or node (number - begin) d))
  child_below d from =
      let mapped : length (map reference_of node) ≡ n = length-map node reference_of ∙ sym long in
      let each = subst (λ (c : ℕ). Children 32 lo low home total k c (map reference_of node)) (omega (arith, begin_is, mapped)) family.each in
      let at : begin + (number - begin) ≡ number = omega (arith, from) in
      subst (λ (j : ℕ). Child 32 lo low home total k j (reference_of (get_or node (number - begin) d))) at
      (child_ref lo low home total k begin (number - begin) node d (omega (arith, from, begin_is, above_is, long, mapped, family.most)) each)

  pub missing_below : number < begin → end 32 k number ≤ low
  missing_below before =
      let mapped : length (map reference_of node) ≡ n = length-map node reference_of ∙ sym long in
      let few : length (map reference_of node) < 32 = omega (arith, mapped, begin_is, above_is, before) in
      let same : suc above * 32 - length (map reference_of node) ≡ begin = omega (arith, mapped, begin_is) in
      omega (arith, times_le (suc number) begin (32 ^ k) before, ap (λ (y : ℕ). y * 32 ^ k) same, family.missing few)

-- what stands for a reference that isn't there
abbrev pub blank_ref : Ref
blank_ref = record { addr = record { 0 = 0 }; first_leaf = record { 0 = 0 }; summary = no_summary }
