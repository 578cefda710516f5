use Rattle.std.proofs.Common.{◌+◌, ◌-◌, List, length, refl, ap, arith}
use Rattle.std.proofs.lemmas.List.{length-take, length-drop}
use Rattle.ak_base.specs.declared.point.Point.{Point}
use Rattle.ak_walk.proofs.Passed.{run_on_fits, run_back_fits, passed_on, passed_back}
use Rattle.ak_walk.proofs.walking.Walk.pass.Goals as goal

pub overflow_sub-self : goal.overflow_sub-self
overflow_sub-self c =
    let w = c.args.self.now in
    omega (arith, c.requires, run_back_fits w c.if-self.true, length-take w.at w.leaf, c.up_to.ensures, ap (λ (ps : List Point). length ps) c.points-count.ensures.points)

pub overflow_add-self : goal.overflow_add-self
overflow_add-self c =
    let w = c.args.self.now in
    omega (arith, c.requires, run_on_fits w c.if-self.false, length-drop w.at w.leaf, c.if-n-eq0.false, c.points-count.ensures.most, ap (λ (ps : List Point). length ps) c.points-count.ensures.points)

pub returns-then-self-clause-ahead : goal.returns-then-self-clause-ahead
returns-then-self-clause-ahead c low made leaves written rest ahead =
    let w = c.args.self.now in
    passed_back low made leaves written rest w ahead c.args.n (c.up_to.result - c.args.n) (omega (arith, c.if-n-eq0.false)) c.requires c.if-self.true
    (omega (arith, length-take w.at w.leaf, c.up_to.ensures, ap (λ (ps : List Point). length ps) c.points-count.ensures.points))

pub returns-else-self-clause-ahead : goal.returns-else-self-clause-ahead
returns-else-self-clause-ahead c low made leaves written rest ahead =
    passed_on low made leaves written rest c.args.self.now ahead c.args.n (c.args.self.now.at + c.args.n) (omega (arith, c.if-n-eq0.false)) c.requires c.if-self.false refl
