use Rattle.std.proofs.Common.{◌≡◌, ◌≢◌, ℕ, List, [], ◌∷◌, set, get_or, refl, sym, ◌∙◌}
use Rattle.std.specs.List.{AllByRecursion}
use Rattle.ak_base.specs.declared.point.Point.{Point}
use Rattle.ak_query.specs.declared.query.Kind.TheVariants.{Select}
use Rattle.ak_rows.specs.Ahead.{AreLater, no_lane}
use Rattle.ak_rows.specs.Coming.{coming, AreInOrder, IsTaken}
use Rattle.ak_rows.specs.Lines.{point_line}
use Rattle.ak_rows.specs.declared.points.Head.TheVariants.{Unasked, Ended}
use Rattle.ak_rows.proofs.Chosen.{row_next, row_none}
use Rattle.ak_rows.proofs.Lanes.{later_same, later_set, at_goes_on}
use Rattle.ak_rows.proofs.Taking.{ended_lanes}
use Rattle.ak_rows.proofs.selecting.select.Goals as goal

pub returns-in-None-clause-later : goal.returns-in-None-clause-later
returns-in-None-clause-later c = later_same c.args.lanes.now

pub returns-in-None-clause-taken : goal.returns-in-None-clause-taken
returns-in-None-clause-taken c points order =
    let none = row_none c.args.back c.args.track points c.args.lanes.now c.requires c.in-None.ensures in
    (none, none)

pub returns-in-Some-clause-later : goal.returns-in-Some-clause-later
returns-in-Some-clause-later c =
    let is = c.in-Some.ensures in
    let ls = c.args.lanes.now in
    let i = c.in-Some.best.at in
    later_set ls i (record { series = (get_or ls i no_lane).series; head = Unasked }) is.within
    (refl, λ e. absurd (at_goes_on c.in-Some.best.point (sym is.here ∙ e)))

pub returns-in-Some-clause-taken : goal.returns-in-Some-clause-taken
returns-in-Some-clause-taken c points order =
    let is = c.in-Some.ensures in
    let ls = c.args.lanes.now in
    let i = c.in-Some.best.at in (
      point_line c.args.track c.in-Some.best.point,
      c.write_point.ensures,
      row_next c.args.back c.args.track points ls i c.in-Some.best.point (record { series = (get_or ls i no_lane).series; head = Unasked }) c.requires order is refl,
    )

pub returns-in-None-clause-ended : goal.returns-in-None-clause-ended
returns-in-None-clause-ended c _ = ended_lanes c.args.lanes.now c.requires c.in-None.ensures
