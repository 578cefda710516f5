-- Which points a window admits, and what they come to.
use Rattle.std.specs.Prelude.{ℕ, Bool, ◌&&◌, nat_le, List, [], ◌∷◌, Option, Some, None}
use Rattle.std.specs.List.{filter}
use Rattle.ak_base.specs.Selections.{filter_has}
use Rattle.ak_base.specs.declared.filter.Filter.{Filter}
use Rattle.ak_base.specs.declared.point.Point.{Point}
use Rattle.ak_select.specs.declared.window.Window.{Window}
use Rattle.ak_summary.specs.Folds.{summary_of}
use Rattle.ak_summary.specs.Summaries.{joined}
use Rattle.ak_summary.specs.declared.summary.Summary.{Summary}

-- times from one to another, both of them in it; none where the second is less
abbrev pub is_within : Window → ℕ → Bool
is_within w ts = nat_le w.least ts && nat_le ts w.most

-- the points of a window that a filter has, in order
abbrev pub chosen : Window → Filter → List Point → List Point
chosen w f ps = filter (λ (p : Point). is_within w p.ts && filter_has f p.value) ps

-- the summary of a list, where it isn't empty
abbrev pub summed : List Point → Option Summary
summed [] = None
summed (p ∷ ps) = Some (summary_of (p ∷ ps))

-- of two such summaries, the first of earlier points
abbrev pub combined : Option Summary → Option Summary → Option Summary
combined None b = b
combined (Some a) None = Some a
combined (Some a) (Some b) = Some (joined a b)
