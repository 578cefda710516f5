use Rattle.std.proofs.Common.{rules, [], ◌∷◌, ◌≡◌, ◌∙◌, List, ℕ, ap, sym, subst}
use Rattle.ak_names.specs.Names.{DoesName}
use Rattle.ak_names.proofs.Readings.{names_one}
use Rattle.ak_meta.proofs.Fronts.{one_item}
use Rattle.ak_meta.proofs.reading.read_name.Goals as goal

pub returns-in-Err-Bad-clause-bad : goal.returns-in-Err-Bad-clause-bad
returns-in-Err-Bad-clause-bad c e is = c.in-Err-Bad.ensures.bad c.in-Err-Bad.field-0-is (c.args.bytes.now ∷ []) is

pub returns-then-ne-clause-bad : goal.returns-then-ne-clause-bad
returns-then-ne-clause-bad c e is =
    let names : List (List ℕ) = c.in-Ok.names in
    let same : names ≡ c.args.bytes.now ∷ [] = names_one c.args.bytes.now names (c.args.bytes.now ∷ []) c.in-Ok.ensures.ok is in
    let whole : c.as_bytes.result.now ≡ c.args.bytes.now = search (rules, same) in
    search (rules, whole)

pub returns-clause-ok : goal.returns-clause-ok
returns-clause-ok c =
    let names : List (List ℕ) = c.in-Ok.names in
    let whole : c.as_bytes.result.now ≡ c.args.bytes.now = search rules in
    let own : c.push.new.self ≡ c.args.bytes.now = search (rules, whole) in
    let is : c.name-item.result ≡ c.args.bytes.now = search (rules, whole) in
    let alone : c.as_slice.result.now ≡ c.name-item.result ∷ [] = one_item c.as_slice.result.now c.name-item.result c.in-len1.len_at_least c.in-len1.len_below c.name-item.is in
    let one : names ≡ c.args.bytes.now ∷ [] = sym c.as_slice.ensures ∙ alone ∙ ap (λ (name : List ℕ). name ∷ []) is in
    (own, subst (DoesName c.args.bytes.now) one c.in-Ok.ensures.ok)
