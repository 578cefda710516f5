use Rattle.std.proofs.Common.{rules}
use mir.Syntax.{w64}
use Rattle.ak_inner.proofs.Fields.{order_kept}
use Rattle.ak_inner.proofs.reference.has_values_within.Goals as goal

pub returns-then-is_value_within : goal.returns-then-is_value_within
returns-then-is_value_within c =
    let s = c.args.s in
    let a = order_kept w64 s.min s.first (search rules) (search rules) in
    let b = order_kept w64 s.first s.max (search rules) (search rules) in
    let d = order_kept w64 s.min s.last (search rules) (search rules) in
    let e = order_kept w64 s.last s.max (search rules) (search rules) in
    let first = c.is_value_within.ensures.0 (search rules) in (
      λ t. let last = c.is_value_within-then-is_value_within.ensures.0 t in (a.0 first.0, b.0 first.1, d.0 last.0, e.0 last.1),
      λ h. c.is_value_within-then-is_value_within.ensures.1 (d.1 h.2, e.1 h.3),
    )
