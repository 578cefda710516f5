use Rattle.std.proofs.Common.{◌∙◌, List, ℕ, sym, subst}
use Rattle.ak_names.specs.Names.{DoesName}
use Rattle.ak_disk_scenarios.proofs.Names.{single, names_itself}
use Rattle.ak_disk_scenarios.proofs.forests.canonical.Goals as goal

pub returns-in-len1 : goal.returns-in-len1
returns-in-len1 c =
    let read = c.as_bytes.ensures.value ∙ c.as_str.ensures.value in
    let does = subst (λ (text : List ℕ). DoesName text c.in-Ok.names) read c.in-Ok.ensures.ok in
    let one = sym c.as_slice.ensures ∙ single c.as_slice.result.now c.only-item.result c.in-len1.len_at_least c.in-len1.len_below c.only-item.is in
    names_itself c.push.new.self c.only-item.result c.as_str-then-this-lt2.result.now c.as_str-then-this-lt2-2.result.now c.in-Ok.names does one (sym c.eq.ensures ∙ c.if-eq.true) c.as_str-then-this-lt2.ensures.value c.as_str-then-this-lt2-2.ensures.value
