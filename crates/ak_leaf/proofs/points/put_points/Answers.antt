use Rattle.std.proofs.Common.{List, ℕ, ◌∙◌, pos, sym, ap, subst, take, get_or, length, length-append, arith}
use Rattle.ak_base.specs.declared.point.Point.{Point}
use Rattle.ak_bytes.specs.Fields.{IsPut}
use Rattle.ak_leaf.specs.Spelling.{spelling, point_spelling}
use Rattle.ak_leaf.proofs.Spellings.{at_place, put_append}
use Rattle.ak_leaf.proofs.points.put_points.Goals as goal

abbrev none : Point
none = record { ts = 0; value = pos 0 }

pub put_point-end-requires-clause-rises : goal.put_point-end-requires-clause-rises
put_point-end-requires-clause-rises c =
    let here = at_place c.args.points.now c.loop-p.p-index c.loop-p.before none c.loop-p-test.true c.requires.history c.loop-p.invariant.before in here.rises

pub put_point-end-requires-clause-room : goal.put_point-end-requires-clause-room
put_point-end-requires-clause-room c =
    let here = at_place c.args.points.now c.loop-p.p-index c.loop-p.before none c.loop-p-test.true c.requires.history c.loop-p.invariant.before in
    omega (arith, here.fits, c.loop-p.invariant.end, c.requires.room)

pub loop-p-preserved : goal.loop-p-preserved
loop-p-preserved c =
    let here = at_place c.args.points.now c.loop-p.p-index c.loop-p.before none c.loop-p-test.true c.requires.history c.loop-p.invariant.before in
    let p = get_or c.args.points.now c.loop-p.p-index none in
    record {
      before = c.after-before.ensures ∙ here.last;
      end = omega (arith, c.put_point-end.ensures.end, c.loop-p.invariant.end, ap length here.spelled, length-append (spelling (take c.loop-p.p-index c.args.points.now)) (point_spelling c.loop-p.before p));
      put = subst (λ (l : List ℕ). IsPut c.args.into.now c.put_point-end.new.into c.args.at c.put_point-end.result l) (sym here.spelled)
          (put_append c.args.into.now c.loop-p.into c.put_point-end.new.into c.args.at c.loop-p.end c.put_point-end.result (spelling (take c.loop-p.p-index c.args.points.now)) (point_spelling c.loop-p.before p)
          (omega (arith, c.put_point-end.ensures.end)) c.loop-p.invariant.put c.put_point-end.ensures.put);
    }
