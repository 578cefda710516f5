use Rattle.serde_json.specs.View.{view}
use Rattle.ak_query.specs.Json.{items_in}
use Rattle.ak_query.proofs.Views.{passes_apart}
use Rattle.ak_query.proofs.joins.are_different.Goals as goal

pub returns-in-Some : goal.returns-in-Some
returns-in-Some c = passes_apart c.in-Some.items.now (items_in (view c.args.value.now)) c.are_apart.result c.in-Some.ensures c.are_apart.ensures
