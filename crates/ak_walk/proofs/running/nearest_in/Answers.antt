use Rattle.std.proofs.Common.{◌≡◌, ◌∙◌, ℕ, ◌+◌, ◌-◌, List, length, take, drop, min, sym, ap, ap₂, arith}
use Rattle.std.proofs.lemmas.List.{drop-take, length-take, take_min}
use Rattle.ak_base.specs.declared.point.Point.{Point}
use Rattle.ak_walk.proofs.running.nearest_in.Goals as goal

pub returns-then-back-clause-back : goal.returns-then-back-clause-back
returns-then-back-clause-back c back =
    let ps : List Point = c.args.points.now in
    let to : ℕ = c.up_to-to.result in
    let from : ℕ = to - c.args.count in
    let long : length (take c.args.at ps) ≡ to = omega (arith, length-take c.args.at ps, c.up_to-to.ensures) in
    let sum : from + (to - from) ≡ min c.args.at (length ps) = omega (arith, c.up_to-to.ensures) in
    sym (drop-take from (to - from) ps) ∙ ap₂ (λ (n m : ℕ). drop n (take m ps)) (ap (λ (n : ℕ). n - c.args.count) (sym long)) sum
    ∙ ap (drop (length (take c.args.at ps) - c.args.count)) (take_min c.args.at ps)
