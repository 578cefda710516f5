use Rattle.std.proofs.Common.{OnOk, sym, subst}
use Rattle.ak_node.proofs.KnownPuts.{after_known, known_told, known_passes}
use Rattle.ak_node.proofs.Staying.{ok_is}
use Rattle.ak_tree.specs.Standing.{Holds}
use Rattle.ak_tree.specs.Stops.{OnWorn, IsWornBy}
use Rattle.ak_world.specs.Worlds.{World}
use Rattle.ak_node.proofs.taken.accept_known.Goals as goal

pub returns-clause-worn : goal.returns-clause-worn
returns-clause-worn g c told content name holds place =
    let keeper = c.args.keeper.now in
    let is = after_known content keeper.forest keeper.names name c.args.series c.args.point c.room.ensures.rules c.requires.ready.names place c.requires.in_time holds.keeps in
    subst (λ (w : World). OnWorn c.append.result (IsWornBy w)) (sym is) (c.append.ensures.worn told content holds)

pub returns-clause-after : goal.returns-clause-after
returns-clause-after g c told content name holds place =
    let keeper = c.args.keeper.now in
    let is = after_known content keeper.forest keeper.names name c.args.series c.args.point c.room.ensures.rules c.requires.ready.names place c.requires.in_time holds.keeps in
    subst (λ (w : World). OnOk c.append.result (Holds w c.append.new.self (g.H.Outside.state c.append.new.disk))) (sym is) (c.append.ensures.after told content holds)

pub returns-clause-told : goal.returns-clause-told
returns-clause-told g c told content name port holds place =
    let keeper = c.args.keeper.now in
    ok_is c.append.result (known_told content keeper.forest keeper.names name c.args.series c.args.point c.room.ensures.rules c.requires.ready.names place c.requires.in_time holds.keeps port (c.append.ensures.passes told))

pub returns-clause-moments : goal.returns-clause-moments
returns-clause-moments g c told content name port holds place =
    let keeper = c.args.keeper.now in
    known_passes content keeper.forest keeper.names name c.args.series c.args.point c.room.ensures.rules c.requires.ready.names place c.requires.in_time holds.keeps port (c.append.ensures.moments told content holds)
