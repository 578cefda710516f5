use Rattle.std.proofs.Common.{get_or, refl, sym, ap}
use Rattle.ak_rows.specs.Ahead.{no_lane}
use Rattle.ak_rows.specs.Orders.{next_time_of}
use Rattle.ak_rows.specs.declared.points.Head.TheVariants.{Unasked}
use Rattle.ak_rows.proofs.Chosen.{row_next, row_none}
use Rattle.ak_rows.proofs.selecting.next_time.Goals as goal

pub returns-in-Some : goal.returns-in-Some
returns-in-Some c track points order =
    let is = c.in-Some.ensures in
    let ls = c.args.lanes.now in
    let i = c.in-Some.best.at in
    ap next_time_of (sym (row_next c.args.back track points ls i c.in-Some.best.point (record { series = (get_or ls i no_lane).series; head = Unasked }) c.requires order is refl))

pub returns-in-None : goal.returns-in-None
returns-in-None c track points order = ap next_time_of (sym (row_none c.args.back track points c.args.lanes.now c.requires c.in-None.ensures))
