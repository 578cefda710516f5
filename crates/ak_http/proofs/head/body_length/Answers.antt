use Rattle.std.proofs.Common.{sym, ap, ◌∙◌}
use Rattle.ak_http.specs.Head.{agreed, lengths, names_and_values, transfer_encoding}
use Rattle.ak_http.proofs.Lengths.{by_field, encoded, not_encoded}
use Rattle.ak_http.proofs.head.body_length.Goals as goal

pub returns-then-has_name : goal.returns-then-has_name
returns-then-has_name c = λ h at.
    let found = sym (by_field c.args.head.now transfer_encoding c.args.headers.now c.args.spans.now.headers h.fields at.fields) ∙ sym c.has_name.ensures ∙ c.if-has_name.true in
    encoded (names_and_values h) found

pub returns-else-has_name : goal.returns-else-has_name
returns-else-has_name c = λ h at.
    let none = sym (by_field c.args.head.now transfer_encoding c.args.headers.now c.args.spans.now.headers h.fields at.fields) ∙ sym c.has_name.ensures ∙ c.if-has_name.false in
    c.agreed_length.ensures ∙ ap (λ lines. agreed (lengths lines)) at.fields ∙ not_encoded (names_and_values h) none
