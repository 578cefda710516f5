use Rattle.std.proofs.Common.{◌≡◌, map, drop}
use Rattle.std.specs.Prelude.{bytes_eq}
use Rattle.std.specs.List.{list_any}
use Rattle.serde_json.specs.View.{view}
use Rattle.ak_query.specs.Json.{text_of}
use Rattle.ak_query.proofs.joins.is_new.Given as goal

abbrev pub invariant-loop-other : goal.invariant-loop-other
invariant-loop-other l = list_any (bytes_eq l.text) (map (λ v. text_of (view v)) l.others) ≡ list_any (bytes_eq l.text) (map (λ v. text_of (view v)) (drop l.other-index l.others))
