-- Summaries of lists that are put together.
use Rattle.std.proofs.Common.{◌≡◌, ◌≢◌, ◌∙◌, List, [], ◌∷◌, ◌++◌, Option, Some, refl, sym, ap, append-nil}
use Rattle.ak_base.specs.declared.point.Point.{Point}
use Rattle.ak_select.specs.Windows.{summed, combined}
use Rattle.ak_summary.proofs.Folded.{joined_append}
use Rattle.ak_summary.specs.Folds.{summary_of}
use Rattle.ak_summary.specs.declared.summary.Summary.{Summary}

pub summed_append : (ps qs : List Point) → summed (ps ++ qs) ≡ combined (summed ps) (summed qs)
summed_append [] qs = refl
summed_append (p ∷ ps) [] = ap (λ (rs : List Point). Some (summary_of (p ∷ rs))) (append-nil ps)
summed_append (p ∷ ps) (q ∷ qs) = ap (λ (s : Summary). Some s) (joined_append p ps q qs)

pub summed_some : (ps : List Point) → ps ≢ [] → summed ps ≡ Some (summary_of ps)
summed_some [] some = absurd (some refl)
summed_some (p ∷ ps) some = refl

-- a summary more
pub summed_more : (so_far new : Option Summary) (ps qs : List Point) → so_far ≡ summed ps → new ≡ combined so_far (summed qs) → new ≡ summed (ps ++ qs)
summed_more so_far new ps qs is made = made ∙ ap (λ (a : Option Summary). combined a (summed qs)) is ∙ sym (summed_append ps qs)

-- none more
pub summed_same : (so_far : Option Summary) (ps qs : List Point) → qs ≡ [] → so_far ≡ summed ps → so_far ≡ summed (ps ++ qs)
summed_same so_far ps qs none is = is ∙ sym (ap (λ (rs : List Point). summed (ps ++ rs)) none ∙ ap summed (append-nil ps))
