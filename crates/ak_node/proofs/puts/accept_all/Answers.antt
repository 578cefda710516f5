use Rattle.std.proofs.Common.{◌∙◌, sym, arith, rules}
use Rattle.ak_host.proofs.Passing.{disk_goes_on}
use Rattle.ak_node.proofs.Accepting.{one_accepted, one_worn, one_passes, all_held, none_late, not_late_at, place_kept, has_place}
use Rattle.ak_node.proofs.puts.accept_all.Goals.{in-Some+in_ok-append, in_default}
use Rattle.ak_node.proofs.puts.accept_all.Goals as goal

pub place_of-requires : goal.place_of-requires
place_of-requires g c =
    place_kept c.args.places.now c.args.names.now c.args.keeper.now.names c.loop-at.keeper.names c.loop-at.at c.index-names-at.result _ c.loop-at-test.true c.index-names-at.is c.requires.places c.loop-at.invariant.names

pub append-requires-clause-not_late : goal.append-requires-clause-not_late
append-requires-clause-not_late g c =
    not_late_at c.loop-at.keeper.forest c.loop-at.keeper.names c.args.names.now c.args.time c.loop-at.at c.in-Some.series c.index-names-at.result _ c.loop-at-test.true c.index-names-at.is (sym c.in-Some.is ∙ c.place_of.ensures) c.loop-at.invariant.none_late

pub returns-in_err-append-clause-worn : goal.returns-in_err-append-clause-worn
returns-in_err-append-clause-worn g c told content holds =
    let now = c.loop-at.keeper in
    let so_far = c.loop-at.invariant.so_far told content holds in
    let place = sym c.in-Some.is ∙ c.place_of.ensures in
    one_worn content c.args.names.now c.args.time c.args.values.now c.loop-at.at now.forest (g.D.Outside.state c.loop-at.disk) now.names c.index-names-at.result _ c.in-Some.series
    so_far c.loop-at-test.true c.requires.alike c.index-names-at.is c.loop-at.invariant.ready.names place c.from_residual.result _ c.in_err-append.field-0.0 c.from_residual.ensures.1
    (c.in_err-append.ensures.worn told so_far.now so_far.holds) (search rules)

pub returns-in_err-append-clause-moments : goal.returns-in_err-append-clause-moments
returns-in_err-append-clause-moments g c told content holds =
    let now = c.loop-at.keeper in
    let so_far = c.loop-at.invariant.so_far told content holds in
    let place = sym c.in-Some.is ∙ c.place_of.ensures in
    one_passes content c.args.names.now c.args.time c.args.values.now c.loop-at.at now.forest (g.D.Outside.state c.loop-at.disk) now.names c.index-names-at.result _ c.in-Some.series
    so_far c.loop-at-test.true c.requires.alike c.index-names-at.is c.loop-at.invariant.ready.names place _ (g.D.Outside.state c.args.disk.now) (g.D.Outside.state c.append.new.disk)
    (c.loop-at.invariant.moments told content holds) (c.append.ensures.moments told so_far.now so_far.holds) (search rules)

pub loop-at-preserved : goal.loop-at-preserved
loop-at-preserved g c =
    let now = c.loop-at.keeper in
    let names = c.args.names.now in
    let time = c.args.time in
    let values = c.args.values.now in
    let name = c.index-names-at.result in
    let host = g.D.Outside.state c.loop-at.disk in
    let before = c.loop-at.invariant in
    elim c.match-place_of.branch [
      | in-Some+in_ok-append b ↦
          let place = sym b.in-Some.is ∙ c.place_of.ensures in
          let put = b.in_ok-append.ensures in
          rw (b.keeper-is, b.disk-is) (record {
            later = omega (arith, put.stops.later, before.later);
            port_faults = put.stops.port_faults ∙ before.port_faults;
            sizes = put.stops.sizes ∙ before.sizes;
            ready = record { forest = put.ready; names = before.ready.names ∙ sym put.names };
            becomes = λ told found was. put.becomes told found (before.becomes told found was);
            names = before.names;
            none_late = none_late now.forest b.append.new.self now.names names time (λ n was. put.last n time (omega arith) was) before.none_late;
            reads = λ told. put.reads told ∙ before.reads told;
            so_far = λ told content holds.
                let so_far = before.so_far told content holds in
                one_accepted content names time values c.loop-at.at now.forest host now.names name _ b.in-Some.series so_far c.loop-at-test.true c.requires.alike c.index-names-at.is before.ready.names place
                _ b.append.new.self (g.D.Outside.state b.append.new.disk) (put.after told so_far.now so_far.holds) (search rules);
            passes = λ told. disk_goes_on (before.passes told) (put.passes told) (λ disk left. tt);
            moments = λ told content holds.
                let so_far = before.so_far told content holds in
                one_passes content names time values c.loop-at.at now.forest host now.names name _ b.in-Some.series so_far c.loop-at-test.true c.requires.alike c.index-names-at.is before.ready.names place
                _ (g.D.Outside.state c.args.disk.now) (g.D.Outside.state b.append.new.disk) (before.moments told content holds) (put.moments told so_far.now so_far.holds) (search rules);
          })
      | in_default b ↦
          absurd (has_place c.args.keeper.now.names now.names names c.loop-at.at name _ c.loop-at-test.true c.index-names-at.is c.requires.known before.names (sym b.in_default.is ∙ c.place_of.ensures))
    ]

pub returns-clause-after : goal.returns-clause-after
returns-clause-after g c told content holds =
    all_held content c.args.names.now c.args.time c.args.values.now c.loop-at.at c.loop-at.keeper.forest (g.D.Outside.state c.loop-at.disk) (omega (arith, c.loop-at-test.false)) (c.loop-at.invariant.so_far told content holds)

pub loop-at-init : goal.loop-at-init
loop-at-init g c = search rules
