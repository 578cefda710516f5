use Rattle.std.proofs.Common.{◌≡◌, rules, sym, ap, ◌∙◌, bytes_eq, option_copied, None, Some}
use Rattle.std.specs.Map.{lookup}
use Rattle.ak_names.proofs.Memos.{lookup-seen, lookup-no_text}
use Rattle.ak_names.proofs.memo.Memo.find.Goals as goal

pub returns-in_err-numbers-in-Ok : goal.returns-in_err-numbers-in-Ok
returns-in_err-numbers-in-Ok c =
    let text_is : c.in-Ok.text.now ≡ c.args.text.now = search rules in
    ap option_copied c.from_residual.ensures
    ∙ lookup-seen c.in-Ok.text.now c.args.text.now c.self.inside.texts.entries c.args.self.now None text_is c.self.view_is c.in_err-numbers-in-Ok.ensures.value

pub returns-in_ok-numbers-in-Ok : goal.returns-in_ok-numbers-in-Ok
returns-in_ok-numbers-in-Ok c =
    let text_is : c.in-Ok.text.now ≡ c.args.text.now = search rules in
    ap Some c.as_slice.ensures.value
    ∙ lookup-seen c.in-Ok.text.now c.args.text.now c.self.inside.texts.entries c.args.self.now (Some c.in_ok-numbers-in-Ok.numbers.now) text_is c.self.view_is c.in_ok-numbers-in-Ok.ensures.value

pub returns-in-Err : goal.returns-in-Err
returns-in-Err c = sym (ap (lookup (λ t. bytes_eq c.args.text.now t)) (sym c.self.view_is) ∙ lookup-no_text c.args.text.now c.self.inside.texts.entries c.in-Err.ensures.cases.0)
