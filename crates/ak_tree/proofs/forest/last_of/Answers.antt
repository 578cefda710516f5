use Rattle.std.proofs.Common.{◌≡◌, ℕ, zero, suc, ◌+◌, ◌-◌, ◌<◌, List, [], ◌∷◌, length, get_or, ap, arith}
use Rattle.ak_base.specs.Points.{last_ts_from}
use Rattle.ak_base.specs.declared.point.Point.{Point}
use Rattle.ak_tree.proofs.forest.last_of.Goals as goal

last_item : (ts : ℕ) (ps : List Point) (p : Point) (i : ℕ) → i + 1 ≡ length ps → p ≡ get_or ps i p → p.ts ≡ last_ts_from ts ps
last_item ts [] p i long is = absurd (omega (arith, long))
last_item ts (q ∷ []) p zero long is = ap (λ (r : Point). r.ts) is
last_item ts (q ∷ []) p (suc i) long is = absurd (omega (arith, long))
last_item ts (q ∷ r ∷ ps) p zero long is = absurd (omega (arith, long))
last_item ts (q ∷ r ∷ ps) p (suc i) long is = last_item q.ts (r ∷ ps) p i (omega (arith, long)) is

pub returns-in-Some : goal.returns-in-Some
returns-in-Some c =
    let some : 0 < length c.args.points.now = c.in-Some.ensures.item.3.0 in
    last_item 0 c.args.points.now c.in-Some.point.now (length c.args.points.now - 1) (omega (arith, some)) c.in-Some.ensures.item.1
