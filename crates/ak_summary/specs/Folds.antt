-- The summary of a list of points, computed.
use Rattle.std.specs.Prelude.{pos, List, [], ◌∷◌}
use Rattle.ak_base.specs.declared.point.Point.{Point}
use Rattle.ak_summary.specs.Summaries.{joined}
use Rattle.ak_summary.specs.declared.summary.Summary.{Summary}

-- of no points
abbrev pub no_summary : Summary
no_summary = record { count = 0; begin = 0; end = 0; first = pos 0; last = pos 0; min = pos 0; min_ts = 0; max = pos 0; max_ts = 0; sum = pos 0 }

-- of one point
abbrev pub point_summary : Point → Summary
point_summary p = record { count = 1; begin = p.ts; end = p.ts; first = p.value; last = p.value; min = p.value; min_ts = p.ts; max = p.value; max_ts = p.ts; sum = p.value }

abbrev pub summary_of : List Point → Summary
summary_of [] = no_summary
summary_of (p ∷ []) = point_summary p
summary_of (p ∷ q ∷ ps) = joined (point_summary p) (summary_of (q ∷ ps))
