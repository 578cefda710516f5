-- What a fold comes to at one reference, case by case.
use Rattle.ak_scene.proofs.Links.{covers_live}
use Rattle.std.proofs.Common.{◌≡◌, ◌⊎◌, inl, inr, ℕ, suc, ◌-◌, ◌*◌, ◌^◌, ◌<◌, ◌≤◌, Bool, List, length, Option, Some, Ok, arith}
use Rattle.std.specs.Prelude.{IsTrue}
use Rattle.ak_base.specs.declared.point.Point.{Point}
use Rattle.ak_scene.proofs.InScene.{stretches}
use Rattle.ak_scene.proofs.Links.{live_node, dead_node, dead_not_live}
use Rattle.ak_fold.proofs.Steps.{ref_none, ref_whole}
use Rattle.ak_fold.specs.Folded.{IsFolded}
use Rattle.ak_scene.specs.Scenes.{IsScene}
use Rattle.ak_forest.specs.Numbers.{end}
use Rattle.ak_forest.specs.Tree.{Child}
use Rattle.ak_host.specs.Moments.{HostState}
use Rattle.ak_image.specs.Blocks.{Seen}
use Rattle.ak_image.specs.Nodes.{reference_of}
use Rattle.ak_image.specs.Trees.{points_between, total_of}
use Rattle.ak_inner.specs.declared.reference.Ref.{Ref}
use Rattle.ak_select.proofs.Trees.{dead_none, early_none, late_none, whole_all, across_one}
use Rattle.ak_select.specs.Costs.{borders}
use Rattle.ak_base.specs.Selections.{IsOpen}
use Rattle.ak_select.specs.Windows.{summed, combined}
use Rattle.ak_base.specs.declared.filter.Filter.{Filter}
use Rattle.ak_select.specs.declared.window.Window.{Window}
use Rattle.ak_summary.specs.declared.summary.Summary.{Summary}
use Rattle.ak_volumes.specs.Ordinals.{Ordinals, IsLive}
use Rattle.ak_world.specs.Leaves.{Leaf}
use Rattle.ak_world.specs.Views.{address_of}

module _ (o : Ordinals) (seen : Seen) (series : ℕ) (leaves : List Leaf) (scene : IsScene o seen series leaves) where
  module _ (w : Window) (f : Filter) (k j : ℕ) (r : Ref) (child : Child 32 o.lo (scene.known.leaves - length leaves) (address_of leaves) (total_of leaves) k j (reference_of r))
      (fits : end 32 k j ≤ scene.known.leaves) (before : List Point) (so_far : Option Summary) (is : so_far ≡ summed before) (old : HostState) where
    low : ℕ
    low = scene.known.leaves - length leaves

    cost : ℕ
    cost = suc k * borders w (scene.known.leaves - length leaves) (points_between leaves) (j * 32 ^ k) (end 32 k j)

    pub at_dead : (IsLive o r.addr.0 → ⊥)
        → IsFolded w f before (points_between leaves (j * 32 ^ k) (end 32 k j)) (suc k * borders w (scene.known.leaves - length leaves) (points_between leaves) (j * 32 ^ k) (end 32 k j)) old old (Ok so_far)
    at_dead dead =
        ref_none (scene.known.leaves - length leaves) scene.known.leaves (address_of leaves) (points_between leaves) (stretches o seen series leaves scene) w f before _ old so_far _
        (dead_none 32 o.lo (scene.known.leaves - length leaves) scene.known.leaves (address_of leaves) (points_between leaves) (omega arith) (stretches o seen series leaves scene) w f k j
        (dead_node o seen series leaves scene k j r child fits dead)) is

    pub at_out : (first_live : Bool) → (IsTrue first_live → IsLive o r.first_leaf.0) → IsLive o r.addr.0 → (r.summary.end < w.least) ⊎ (IsTrue first_live × (w.most < r.summary.begin))
        → IsFolded w f before (points_between leaves (j * 32 ^ k) (end 32 k j)) (suc k * borders w (scene.known.leaves - length leaves) (points_between leaves) (j * 32 ^ k) (end 32 k j)) old old (Ok so_far)
    at_out first_live first live out =
        let are = stretches o seen series leaves scene in
        let alive = live_node o seen series leaves scene k j r child live in
        ref_none (scene.known.leaves - length leaves) scene.known.leaves (address_of leaves) (points_between leaves) are w f before _ old so_far _
        (elim out [
          | inl early ↦ early_none 32 o.lo (scene.known.leaves - length leaves) scene.known.leaves (address_of leaves) (points_between leaves) (omega arith) are w f k j (reference_of r) child alive fits early
          | inr late ↦ elim child.tally [
            | inl covers ↦ late_none 32 o.lo (scene.known.leaves - length leaves) scene.known.leaves (address_of leaves) (points_between leaves) (omega arith) are w f k j r.first_leaf.0 r.summary covers late.1
            | inr cut ↦ absurd (dead_not_live o r.first_leaf.0 cut.dead (first late.0))
          ]
        ]) is

    pub at_whole : (result : Summary) → IsLive o r.first_leaf.0 → IsOpen f → w.least ≤ r.summary.begin → r.summary.end ≤ w.most → Some result ≡ combined so_far (Some r.summary)
        → IsFolded w f before (points_between leaves (j * 32 ^ k) (end 32 k j)) (suc k * borders w (scene.known.leaves - length leaves) (points_between leaves) (j * 32 ^ k) (end 32 k j)) old old (Ok (Some result))
    at_whole result first open_is from to joins =
        let are = stretches o seen series leaves scene in
        ref_whole (scene.known.leaves - length leaves) scene.known.leaves (address_of leaves) (points_between leaves) are w f before _ old so_far r.summary result _
        (elim child.tally [
          | inl covers ↦ whole_all 32 o.lo (scene.known.leaves - length leaves) scene.known.leaves (address_of leaves) (points_between leaves) (omega arith) are w f k j r.first_leaf.0 r.summary covers fits open_is from to
          | inr cut ↦ absurd (dead_not_live o r.first_leaf.0 cut.dead first)
        ]) is joins

    pub border_here : (first_live : Bool) → (IsLive o r.first_leaf.0 → IsTrue first_live) → IsLive o r.addr.0
        → (IsTrue first_live → IsOpen f → ((r.summary.begin < w.least) × (w.least ≤ r.summary.end)) ⊎ ((r.summary.begin ≤ w.most) × (w.most < r.summary.end)))
        → IsOpen f → 1 ≤ borders w (scene.known.leaves - length leaves) (points_between leaves) (j * 32 ^ k) (end 32 k j)
    border_here first_live first live across open_is =
        across_one 32 o.lo (scene.known.leaves - length leaves) scene.known.leaves (address_of leaves) (points_between leaves) (omega arith) (stretches o seen series leaves scene) w f k j (reference_of r) child
        (live_node o seen series leaves scene k j r child live) fits
        (λ covers. across (first (covers_live o seen series leaves scene k j r.first_leaf.0 r.summary fits covers)) open_is)
