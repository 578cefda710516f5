use Rattle.std.proofs.Common.{◌≡◌, ◌∙◌, ◌++◌, ℕ, List, length, refl, ap, arith}
use Rattle.std.proofs.lemmas.Grind.{common_steps}
use Rattle.ak_text.specs.Rows.{row_text}
use Rattle.ak_text.proofs.writer.Writer.row.Goals as goal

pub returns-then-counted-gt-MOST_BYTES-clause-ok : goal.returns-then-counted-gt-MOST_BYTES-clause-ok
returns-then-counted-gt-MOST_BYTES-clause-ok c =
    let text : List ℕ = row_text c.self.inside.form c.args.name.now c.args.r.now in
    let row : c.write_row.new.row.items ≡ text = c.in_ok-write_row.ensures ∙ ap (λ (l : List ℕ). l ++ text) c.clear.ensures.items in
    let long : length c.as_slice-row.result.now ≡ length text = ap (λ (l : List ℕ). length l) (c.as_slice-row.ensures.value ∙ row) in
    rw (← c.self.view_is) (record { form = refl; counted = grind (arith, common_steps); bytes = λ short. absurd (omega (arith, short)) })

pub returns-clause-ok : goal.returns-clause-ok
returns-clause-ok c =
    let text : List ℕ = row_text c.self.inside.form c.args.name.now c.args.r.now in
    let row : c.write_row.new.row.items ≡ text = c.in_ok-write_row.ensures ∙ ap (λ (l : List ℕ). l ++ text) c.clear.ensures.items in
    let same : c.as_slice-row.result.now ≡ text = c.as_slice-row.ensures.value ∙ row in
    let long : length c.as_slice-row.result.now ≡ length text = ap (λ (l : List ℕ). length l) same in
    rw (← c.self.view_is) (record {
      form = refl;
      counted = grind (arith, common_steps);
      bytes = λ short. c.in_ok-extend_from_slice.ensures.items ∙ ap (λ (l : List ℕ). c.self.inside.text.items ++ l) same;
    })
