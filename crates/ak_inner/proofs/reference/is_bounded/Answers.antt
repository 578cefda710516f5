use Rattle.std.proofs.Common.{◌≡◌, ◌∙◌, ◌*ℤ◌, ◌≤ℤ◌, ℤ, pos, sym, ap, subst, rules}
use Rattle.std.proofs.lemmas.Int.{to_z-of_z}
use mir.Syntax.{w64, w128}
use Rattle.ak_inner.proofs.Fields.{order_kept}
use Rattle.ak_inner.proofs.reference.is_bounded.Goals as goal

pub returns : goal.returns
returns c =
    let s = c.args.s in
    let low : c.product.result ≡ pos s.count *ℤ s.min = c.product.ensures ∙ ap (λ (z : ℤ). pos s.count *ℤ z) (to_z-of_z w64 s.min (search rules)) in
    let high : c.product-2.result ≡ pos s.count *ℤ s.max = c.product-2.ensures ∙ ap (λ (z : ℤ). pos s.count *ℤ z) (to_z-of_z w64 s.max (search rules)) in
    let from = order_kept w128 c.product.result s.sum (search rules) (search rules) in
    let to = order_kept w128 s.sum c.product-2.result (search rules) (search rules) in (
      λ t. record {
        low = subst (λ (z : ℤ). z ≤ℤ s.sum) low (from.0 (c.is_within.ensures.0 t).0);
        high = subst (λ (z : ℤ). s.sum ≤ℤ z) high (to.0 (c.is_within.ensures.0 t).1);
      },
      λ b. c.is_within.ensures.1 (from.1 (subst (λ (z : ℤ). z ≤ℤ s.sum) (sym low) b.low), to.1 (subst (λ (z : ℤ). s.sum ≤ℤ z) (sym high) b.high)),
    )
