use Rattle.std.proofs.Common.{subst, List}
use Rattle.ak_query.specs.declared.query.Kind.TheVariants.{Select}
use Rattle.ak_rows.specs.Coming.{coming, IsTaken}
use Rattle.ak_rows.specs.Lines.{Line}
use Rattle.ak_rows.proofs.Lanes.{later_on}
use Rattle.ak_rows.proofs.Taking.{order_same, coming_same}
use Rattle.ak_rows.proofs.selecting.take_select.Goals as goal

pub returns-clause-later : goal.returns-clause-later
returns-clause-later g c = later_on c.args.lanes.now c.ask_all.new.lanes c.select.new.lanes c.ask_all.ensures.later c.select.ensures.later

pub returns-clause-taken : goal.returns-clause-taken
returns-clause-taken g c had order =
    let F = g.F.Feed in
    let before = F.points c.args.feed.now in
    let now = F.points c.ask_all.new.feed in
    let same = c.in_ok-ask_all.ensures.ahead had in
    subst (λ (ls : List Line). IsTaken c.select.result c.select.new.row ls (coming Select c.args.back c.args.track now c.select.new.lanes))
    (coming_same Select c.args.back c.args.track before now c.args.lanes.now c.ask_all.new.lanes same)
    (c.select.ensures.taken now (order_same c.args.back before now c.args.lanes.now c.ask_all.new.lanes same order))

pub returns-clause-order : goal.returns-clause-order
returns-clause-order g c had order =
    let F = g.F.Feed in
    let before = F.points c.args.feed.now in
    let now = F.points c.ask_all.new.feed in
    c.select.ensures.order now (order_same c.args.back before now c.args.lanes.now c.ask_all.new.lanes (c.in_ok-ask_all.ensures.ahead had) order)
