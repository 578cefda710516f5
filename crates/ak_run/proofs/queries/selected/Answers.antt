use Rattle.std.proofs.Common.{◌≡◌, subst, sym, ◌∙◌, rules}
use Rattle.ak_run.specs.Asking.{IsSelected}
use Rattle.ak_run.proofs.Texts.{query_one}
use Rattle.ak_run.proofs.queries.selected.Goals as goal

pub returns-in_err-metric-clause-none : goal.returns-in_err-metric-clause-none
returns-in_err-metric-clause-none c = rw c.from_residual.ensures (λ metric _ is. c.in_err-metric.ensures.none metric is)

pub returns-else-is_selected-clause-none : goal.returns-else-is_selected-clause-none
returns-else-is_selected-clause-none c = λ metric s is.
    let same : metric ≡ c.in_ok-metric.metric.now = query_one metric c.in_ok-metric.metric.now (sym is ∙ c.in_ok-metric.ensures.some) in
    let own : IsSelected c.in_ok-metric.metric.now = subst IsSelected same s in
    search (rules, c.is_selected.ensures.1 own)
