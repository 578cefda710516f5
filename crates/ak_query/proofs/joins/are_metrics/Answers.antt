use Rattle.serde_json.specs.View.{view}
use Rattle.ak_query.specs.Json.{items_in, text_of}
use Rattle.ak_query.specs.Shapes.{can_be_metric}
use Rattle.ak_query.proofs.Views.{passes_items}
use Rattle.ak_query.proofs.joins.are_metrics.Goals as goal

pub returns-in-Some : goal.returns-in-Some
returns-in-Some c =
    passes_items (λ d. can_be_metric (text_of d)) c.in-Some.items.now (items_in (view c.args.value.now)) c.are_each_metric.result
    c.in-Some.ensures c.are_each_metric.ensures
