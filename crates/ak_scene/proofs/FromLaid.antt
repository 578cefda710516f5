-- An entry fits where the blocks are laid out and what waits is planted.
use Rattle.std.proofs.Common.{◌≡◌, ℕ, zero, suc, ◌+◌, ◌<◌, List, [], ◌∷◌, ◌++◌, length, drop, get_or, refl, sym, ap, subst, arith}
use Rattle.ak_base.specs.Points.{IsHistory}
use Rattle.ak_base.specs.declared.point.Point.{Point}
use Rattle.ak_scene.specs.Scenes.{IsFit}
use Rattle.ak_image.specs.Blocks.{Seen}
use Rattle.ak_image.specs.Chains.{IsChain}
use Rattle.ak_image.specs.Laid.{AreLaid, kept_in}
use Rattle.ak_image.specs.Planted.{ArePlanted}
use Rattle.ak_levels.specs.Pending.{Lists, no_lists}
use Rattle.ak_meta.specs.Leaves.{leaves_at}
use Rattle.ak_meta.specs.declared.meta.SeriesMeta.{SeriesMeta}
use Rattle.ak_volumes.specs.Ordinals.{Ordinals}
use Rattle.ak_world.specs.Leaves.{Leaf, points_of}

pub fit_from : (o : Ordinals) (seen : Seen) (s n : ℕ) (all : List SeriesMeta) (kept : List (List Leaf)) (bases : List ℕ) (levels : List Lists) (written : List Point) → n < length all
    → AreLaid seen o.lo o.fills s all kept → ArePlanted o seen s all kept bases levels → IsHistory (points_of (kept_in kept n) ++ written)
    → IsFit o seen (s + n) (leaves_at all n) (get_or levels n no_lists) (kept_in kept n) written
fit_from o seen s n [] kept bases levels written below laid planted history = absurd (omega (arith, below))
fit_from o seen s n (known ∷ all) [] bases levels written below laid planted history = absurd planted
fit_from o seen s n (known ∷ all) (leaves ∷ kept) [] levels written below laid planted history = absurd planted
fit_from o seen s n (known ∷ all) (leaves ∷ kept) (base ∷ bases) [] written below laid planted history = absurd planted
fit_from o seen s zero (known ∷ all) (leaves ∷ kept) (base ∷ bases) (v ∷ levels) written below laid planted history =
    let same : laid.0 ≡ leaves = ap (λ (ls : List (List Leaf)). get_or ls 0 laid.0) (sym laid.2) in
    let chain = subst (λ (ls : List Leaf). IsChain seen o.lo s known ls) same laid.4 in
    let here : s ≡ s + 0 = omega arith in
    subst (λ (m : ℕ). IsFit o seen m known.leaves v leaves written) here record {
      scene = record { known = known; chain = chain; tree = planted.0.grown.tree };
      count_is = refl;
      base = base;
      planted = planted.0;
      history = history;
    }
fit_from o seen s (suc n) (known ∷ all) (leaves ∷ kept) (base ∷ bases) (v ∷ levels) written below laid planted history =
    let same : laid.1 ≡ kept = ap (λ (ls : List (List Leaf)). drop 1 ls) (sym laid.2) in
    let rest = subst (λ (ls : List (List Leaf)). AreLaid seen o.lo o.fills (suc s) all ls) same laid.5 in
    let there : suc s + n ≡ s + suc n = omega arith in
    subst (λ (m : ℕ). IsFit o seen m (leaves_at all n) (get_or levels n no_lists) (kept_in kept n) written) there
    (fit_from o seen (suc s) n all kept bases levels written (omega (arith, below)) rest planted.1 history)
