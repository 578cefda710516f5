use Rattle.std.proofs.Common.{◌≡◌, ◌++◌, Some, codes}
use Rattle.std.proofs.lemmas.Bool.Decides.{Decides-eqb}
use Rattle.std.proofs.lemmas.Slice.Eq.{strip_prefix_is, strip_suffix_is}
use Rattle.ak_run.proofs.Texts.{middle_some}
use Rattle.ak_run.proofs.queries.middle.Goals as goal

pub returns-clause-some : goal.returns-clause-some
returns-clause-some c =
    let text = c.args.text.now in
    let rest = c.in_ok-strip_prefix.field-0.now in
    let front : text ≡ codes "{\"select\":\"" ++ rest = strip_prefix_is Decides-eqb text (codes "{\"select\":\"") (Some c.in_ok-strip_prefix.field-0) c.in_ok-strip_prefix.ensures.cases in
    middle_some text (codes "{\"select\":\"") (codes "\"}") rest c.strip_suffix.result front (strip_suffix_is Decides-eqb rest (codes "\"}") c.strip_suffix.result c.strip_suffix.ensures.cases)
