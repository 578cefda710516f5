use Rattle.std.proofs.Common.{List, length, take, drop, sym, ap, subst, arith}
use Rattle.ak_base.specs.declared.point.Point.{Point}
use Rattle.ak_walk.proofs.Passed.{run_on_fits, run_back_fits, nearest_length, nearest_is, run_ahead}
use Rattle.ak_walk.specs.Walking.{Parts}
use Rattle.ak_walk.proofs.walking.Walk.run.Goals as goal

pub nearest_in-requires-clause-on : goal.nearest_in-requires-clause-on
nearest_in-requires-clause-on c f =
    omega (arith, run_on_fits c.args.self.now f, c.run_count-count.ensures, ap (λ (ps : List Point). length (drop c.args.self.now.at ps)) c.points.ensures.points)

pub nearest_in-requires-clause-back : goal.nearest_in-requires-clause-back
nearest_in-requires-clause-back c b =
    omega (arith, run_back_fits c.args.self.now b, c.run_count-count.ensures, ap (λ (ps : List Point). length (take c.args.self.now.at ps)) c.points.ensures.points)

pub returns-clause-count : goal.returns-clause-count
returns-clause-count c =
    nearest_length c.args.self.now c.points.result.now c.nearest_in.result.now c.run_count-count.result c.points.ensures.points c.run_count-count.ensures c.nearest_in.ensures.on c.nearest_in.ensures.back

pub returns-clause-ahead : goal.returns-clause-ahead
returns-clause-ahead c low n leaves written rest ahead =
    let w = c.args.self.now in
    let same = nearest_is w c.points.result.now c.nearest_in.result.now c.run_count-count.result c.points.ensures.points c.run_count-count.ensures c.nearest_in.ensures.on c.nearest_in.ensures.back in
    subst (λ (ps : List Point). (later : List Point) × Parts w.back rest ps later) (sym same) (run_ahead low n leaves written rest w ahead)
