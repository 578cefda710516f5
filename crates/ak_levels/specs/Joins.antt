-- The join of the summaries of references.
use Rattle.std.specs.Prelude.{List, [], ◌∷◌}
use Rattle.ak_inner.specs.declared.reference.Ref.{Ref}
use Rattle.ak_summary.specs.Folds.{no_summary}
use Rattle.ak_summary.specs.Summaries.{joined}
use Rattle.ak_summary.specs.declared.summary.Summary.{Summary}

abbrev pub joined_refs : List Ref → Summary
joined_refs [] = no_summary
joined_refs (r ∷ []) = r.summary
joined_refs (r ∷ s ∷ rs) = joined r.summary (joined_refs (s ∷ rs))
