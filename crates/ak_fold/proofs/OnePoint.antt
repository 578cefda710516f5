-- Points that are added to a summary.
use Rattle.std.proofs.Common.{◌≡◌, ◌∙◌, ℕ, ◌≤◌, Bool, true, false, List, [], ◌∷◌, ◌++◌, Option, Some, None, sym, ap, arith, append_assoc}
use Rattle.std.specs.Prelude.{◌&&◌, if◌then◌else◌}
use Rattle.ak_base.specs.declared.point.Point.{Point}
use Rattle.ak_fold.specs.Folded.{AreUpTo}
use Rattle.ak_select.proofs.Chosen.{chosen_append}
use Rattle.ak_base.specs.Selections.{filter_has}
use Rattle.ak_select.specs.Windows.{chosen, summed, is_within}
use Rattle.ak_base.specs.declared.filter.Filter.{Filter}
use Rattle.ak_select.specs.declared.window.Window.{Window}
use Rattle.ak_summary.specs.declared.summary.Summary.{Summary}

-- no more than more
pub up_to_more : (n m : ℕ) (so_far : Option Summary) → n ≤ m → AreUpTo n so_far → AreUpTo m so_far
up_to_more n m None less is = tt
up_to_more n m (Some s) less is = record { count = omega (arith, less, is.count); bounded = is.bounded }

-- a point that is asked for, and one that isn't
pub point_in : (w : Window) (f : Filter) (p : Point) → (is_within w p.ts && filter_has f p.value) ≡ true → chosen w f (p ∷ []) ≡ p ∷ []
point_in w f p is = ap (λ (b : Bool). if b then p ∷ [] else []) is

pub point_out : (w : Window) (f : Filter) (p : Point) → (is_within w p.ts && filter_has f p.value) ≡ false → chosen w f (p ∷ []) ≡ []
point_out w f p is = ap (λ (b : Bool). if b then p ∷ [] else []) is

-- the points so far and the next
pub points_on : (w : Window) (f : Filter) (ps rs more : List Point) (p : Point) (all next : Option Summary) → more ≡ rs ++ p ∷ [] → all ≡ summed (ps ++ chosen w f rs)
    → ((before : List Point) → all ≡ summed before → next ≡ summed (before ++ chosen w f (p ∷ []))) → next ≡ summed (ps ++ chosen w f more)
points_on w f ps rs more p all next is so_far step =
    step (ps ++ chosen w f rs) so_far
    ∙ ap summed (append_assoc ps (chosen w f rs) (chosen w f (p ∷ [])) ∙ ap (λ (xs : List Point). ps ++ xs) (sym (chosen_append w f rs (p ∷ [])) ∙ ap (chosen w f) (sym is)))
