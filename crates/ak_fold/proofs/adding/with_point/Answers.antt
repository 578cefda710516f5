use Rattle.std.proofs.Common.{◌≡◌, ◌∙◌, List, [], ◌∷◌, Some, sym, ap, arith}
use Rattle.ak_base.specs.declared.point.Point.{Point}
use Rattle.ak_fold.proofs.OnePoint.{point_in}
use Rattle.ak_select.proofs.Summed.{summed_more}
use Rattle.ak_select.specs.Windows.{chosen, summed, combined}
use Rattle.ak_summary.specs.Folds.{point_summary}
use Rattle.ak_summary.specs.declared.summary.Summary.{Summary}
use Rattle.ak_summary.proofs.Folded.{IsSummary-point}
use Rattle.ak_summary.specs.Ones.{IsSummary-one}
use Rattle.ak_fold.proofs.adding.with_point.Goals as goal

pub returns-then-is_asked-clause-is : goal.returns-then-is_asked-clause-is
returns-then-is_asked-clause-is c ps is =
    let p : Point = c.args.p in
    let one : c.of.result ≡ point_summary p = IsSummary-one (p ∷ []) c.of.result (point_summary p) c.of.ensures.value (IsSummary-point p) in
    let in_it : chosen c.args.asked.window c.args.asked.filter (p ∷ []) ≡ p ∷ [] =
    point_in c.args.asked.window c.args.asked.filter p (sym c.is_asked.ensures ∙ c.if-is_asked.true) in
    summed_more c.args.so_far (Some c.with.result) ps (chosen c.args.asked.window c.args.asked.filter (p ∷ [])) is
    (c.with.ensures.is ∙ ap (λ (s : Summary). combined c.args.so_far (Some s)) one ∙ ap (λ (qs : List Point). combined c.args.so_far (summed qs)) (sym in_it))

pub returns-then-is_asked-clause-up_to : goal.returns-then-is_asked-clause-up_to
returns-then-is_asked-clause-up_to c n is = c.with.ensures.up_to n 1 is (omega (arith, c.of.ensures.value.count))
