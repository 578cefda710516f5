use Rattle.std.proofs.Common.{◌≡◌, map, drop}
use Rattle.serde_json.specs.View.{view}
use Rattle.ak_query.specs.Json.{text_of}
use Rattle.ak_query.specs.Shapes.{apart}
use Rattle.ak_query.proofs.joins.are_apart.Given as goal

abbrev pub invariant-loop-at : goal.invariant-loop-at
invariant-loop-at l = apart (map (λ v. text_of (view v)) l.items) ≡ apart (map (λ v. text_of (view v)) (drop l.at l.items))
