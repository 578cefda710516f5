use Rattle.std.proofs.Common.{◌≡◌, ◌∙◌, ℕ, Bool, false, List, Result, Ok, Err, OnOk, rules, sym, ap, subst}
use Rattle.std.proofs.lemmas.Bool.{false≢true}
use Rattle.std.specs.Option.{option_map}
use Rattle.ak_base.specs.declared.refusal.Refusal.TheVariants.{Late}
use Rattle.ak_node.proofs.Refusing.{full, fitting, kept, is_put, put_ready, put_places, put_late, put_holds, put_taken, put_passes}
use Rattle.ak_node.specs.Standing.{Holds}
use Rattle.ak_tree.specs.Stops.{IsWornBy}
use Rattle.ak_tree.proofs.Telling.{worn_from}
use Rattle.ak_world.specs.Puts.{named}
use Rattle.ak_world.specs.Worlds.{World}
use Rattle.std.specs.Result.{is_err}
use Rattle.ak_host.specs.Moments.{HostState}
use Rattle.ak_tree.specs.Later.{KeepsOrigins}
use Rattle.ak_node.specs.Names.{with_all, levels_with}
use Rattle.ak_node.specs.declared.keeper.Keeper.{Keeper}
use Rattle.ak_node.proofs.Adding.{all_keep}
use Rattle.ak_node.proofs.Stopping.{stops_of}
use Rattle.ak_tree.specs.Standing.{Trees}
use Rattle.ak_node.proofs.puts.put.Goals as goal

pub returns-then-need-room-clause-refusal : goal.returns-then-need-room-clause-refusal
returns-then-need-room-clause-refusal g c content keeps =
    full content c.args.keeper.now.forest c.args.names.now c.args.time keeps c.look_at-need.result.need c.room-room.result c.look_at-need.ensures.need c.room-room.ensures.room c.if-need-room.true

pub returns-then-need-room-clause-after : goal.returns-then-need-room-clause-after
returns-then-need-room-clause-after g c told content holds =
    subst (λ (w : World). Holds w c.args.keeper.now (g.D.Outside.state c.args.disk.now)) (kept content c.args.names.now c.args.time c.args.values.now _ (returns-then-need-room-clause-refusal g c content holds.keeps)) holds

pub returns-in-Some-clause-refusal : goal.returns-in-Some-clause-refusal
returns-in-Some-clause-refusal g c content keeps =
    let old = c.args.keeper.now in
    ap (option_map Late) (sym c.in-Some.is)
    ∙ fitting content old.forest c.args.names.now c.args.time keeps old.names c.look_at-need.result.need c.room-room.result c.look_at-need.result.late c.room-room.ensures.rules c.requires.ready.names
    c.look_at-need.ensures.need c.room-room.ensures.room c.if-need-room.false c.look_at-need.ensures.late

pub returns-in-Some-clause-after : goal.returns-in-Some-clause-after
returns-in-Some-clause-after g c told content holds =
    subst (λ (w : World). Holds w c.args.keeper.now (g.D.Outside.state c.args.disk.now)) (kept content c.args.names.now c.args.time c.args.values.now _ (returns-in-Some-clause-refusal g c content holds.keeps)) holds

pub accept_all-requires-clause-ready : goal.accept_all-requires-clause-ready
accept_all-requires-clause-ready g c =
    let put = is_put c.add_names.result c.is_err.result c.args.keeper.now c.add_names.new.keeper c.args.names.now c.args.time c.look_at-need.result.places c.look_at-need.result.need c.room-room.result c.look_at-need.result.late
    c.is_err.ensures.value c.if-is_err.false c.room-room.ensures.rules c.requires.ready.names c.requires.canonical c.look_at-need.ensures.need c.room-room.ensures.room c.if-need-room.false c.look_at-need.ensures.late c.in_default.is c.look_at-need.ensures.places
    c.add_names.ensures.index c.add_names.ensures.longer c.add_names.ensures.forest c.add_names.ensures.last c.add_names.ensures.keeps in
    put_ready c.args.keeper.now c.add_names.new.keeper c.args.names.now c.args.time c.look_at-need.result.places put g.D.Outside.tells (g.D.Outside.state c.args.disk.now) c.requires.ready

pub accept_all-requires-clause-places : goal.accept_all-requires-clause-places
accept_all-requires-clause-places g c =
    let put = is_put c.add_names.result c.is_err.result c.args.keeper.now c.add_names.new.keeper c.args.names.now c.args.time c.look_at-need.result.places c.look_at-need.result.need c.room-room.result c.look_at-need.result.late
    c.is_err.ensures.value c.if-is_err.false c.room-room.ensures.rules c.requires.ready.names c.requires.canonical c.look_at-need.ensures.need c.room-room.ensures.room c.if-need-room.false c.look_at-need.ensures.late c.in_default.is c.look_at-need.ensures.places
    c.add_names.ensures.index c.add_names.ensures.longer c.add_names.ensures.forest c.add_names.ensures.last c.add_names.ensures.keeps in
    put_places c.args.keeper.now c.add_names.new.keeper c.args.names.now c.args.time c.look_at-need.result.places put

pub accept_all-requires-clause-none_late : goal.accept_all-requires-clause-none_late
accept_all-requires-clause-none_late g c =
    let put = is_put c.add_names.result c.is_err.result c.args.keeper.now c.add_names.new.keeper c.args.names.now c.args.time c.look_at-need.result.places c.look_at-need.result.need c.room-room.result c.look_at-need.result.late
    c.is_err.ensures.value c.if-is_err.false c.room-room.ensures.rules c.requires.ready.names c.requires.canonical c.look_at-need.ensures.need c.room-room.ensures.room c.if-need-room.false c.look_at-need.ensures.late c.in_default.is c.look_at-need.ensures.places
    c.add_names.ensures.index c.add_names.ensures.longer c.add_names.ensures.forest c.add_names.ensures.last c.add_names.ensures.keeps in
    put_late c.args.keeper.now c.add_names.new.keeper c.args.names.now c.args.time c.look_at-need.result.places put

pub returns-in_err-accept_all-clause-worn : goal.returns-in_err-accept_all-clause-worn
returns-in_err-accept_all-clause-worn g c told content holds =
    let put = is_put c.add_names.result c.is_err.result c.args.keeper.now c.add_names.new.keeper c.args.names.now c.args.time c.look_at-need.result.places c.look_at-need.result.need c.room-room.result c.look_at-need.result.late
    c.is_err.ensures.value c.if-is_err.false c.room-room.ensures.rules c.requires.ready.names c.requires.canonical c.look_at-need.ensures.need c.room-room.ensures.room c.if-need-room.false c.look_at-need.ensures.late c.in_default.is c.look_at-need.ensures.places
    c.add_names.ensures.index c.add_names.ensures.longer c.add_names.ensures.forest c.add_names.ensures.last c.add_names.ensures.keeps in
    let all = put_taken c.args.keeper.now c.add_names.new.keeper c.args.names.now c.args.time c.look_at-need.result.places put content c.args.values.now c.look_at-need.result.need c.room-room.result holds.keeps c.look_at-need.ensures.need c.room-room.ensures.room c.if-need-room.false in
    let held = put_holds c.args.keeper.now c.add_names.new.keeper c.args.names.now c.args.time c.look_at-need.result.places put content (g.D.Outside.state c.args.disk.now) holds in
    worn_from c.from_residual.result c.in_err-accept_all.field-0.0 c.from_residual.ensures.1 (λ stop. subst (λ (w : World). IsWornBy w stop) all)
    (c.in_err-accept_all.ensures.worn told (named content c.args.names.now) held)

pub returns-in_err-accept_all-clause-moments : goal.returns-in_err-accept_all-clause-moments
returns-in_err-accept_all-clause-moments g c told content holds =
    let put = is_put c.add_names.result c.is_err.result c.args.keeper.now c.add_names.new.keeper c.args.names.now c.args.time c.look_at-need.result.places c.look_at-need.result.need c.room-room.result c.look_at-need.result.late
    c.is_err.ensures.value c.if-is_err.false c.room-room.ensures.rules c.requires.ready.names c.requires.canonical c.look_at-need.ensures.need c.room-room.ensures.room c.if-need-room.false c.look_at-need.ensures.late c.in_default.is c.look_at-need.ensures.places
    c.add_names.ensures.index c.add_names.ensures.longer c.add_names.ensures.forest c.add_names.ensures.last c.add_names.ensures.keeps in
    let all = put_taken c.args.keeper.now c.add_names.new.keeper c.args.names.now c.args.time c.look_at-need.result.places put content c.args.values.now c.look_at-need.result.need c.room-room.result holds.keeps c.look_at-need.ensures.need c.room-room.ensures.room c.if-need-room.false in
    let held = put_holds c.args.keeper.now c.add_names.new.keeper c.args.names.now c.args.time c.look_at-need.result.places put content (g.D.Outside.state c.args.disk.now) holds in
    put_passes content c.args.names.now _ _ (g.D.Outside.state c.args.disk.now) (g.D.Outside.state c.accept_all.new.disk) all (c.accept_all.ensures.moments told (named content c.args.names.now) held)

pub returns-clause-refusal : goal.returns-clause-refusal
returns-clause-refusal g c content keeps =
    let old = c.args.keeper.now in
    ap (option_map Late) (sym c.in_default.is)
    ∙ fitting content old.forest c.args.names.now c.args.time keeps old.names c.look_at-need.result.need c.room-room.result c.look_at-need.result.late c.room-room.ensures.rules c.requires.ready.names
    c.look_at-need.ensures.need c.room-room.ensures.room c.if-need-room.false c.look_at-need.ensures.late

pub returns-clause-after : goal.returns-clause-after
returns-clause-after g c told content holds =
    let put = is_put c.add_names.result c.is_err.result c.args.keeper.now c.add_names.new.keeper c.args.names.now c.args.time c.look_at-need.result.places c.look_at-need.result.need c.room-room.result c.look_at-need.result.late
    c.is_err.ensures.value c.if-is_err.false c.room-room.ensures.rules c.requires.ready.names c.requires.canonical c.look_at-need.ensures.need c.room-room.ensures.room c.if-need-room.false c.look_at-need.ensures.late c.in_default.is c.look_at-need.ensures.places
    c.add_names.ensures.index c.add_names.ensures.longer c.add_names.ensures.forest c.add_names.ensures.last c.add_names.ensures.keeps in
    let all = put_taken c.args.keeper.now c.add_names.new.keeper c.args.names.now c.args.time c.look_at-need.result.places put content c.args.values.now c.look_at-need.result.need c.room-room.result holds.keeps c.look_at-need.ensures.need c.room-room.ensures.room c.if-need-room.false in
    let held = put_holds c.args.keeper.now c.add_names.new.keeper c.args.names.now c.args.time c.look_at-need.result.places put content (g.D.Outside.state c.args.disk.now) holds in
    subst (λ (w : World). Holds w c.accept_all.new.keeper (g.D.Outside.state c.accept_all.new.disk)) all (c.in_ok-accept_all.ensures.after told (named content c.args.names.now) held)

pub returns-clause-moments : goal.returns-clause-moments
returns-clause-moments g c told content holds =
    let put = is_put c.add_names.result c.is_err.result c.args.keeper.now c.add_names.new.keeper c.args.names.now c.args.time c.look_at-need.result.places c.look_at-need.result.need c.room-room.result c.look_at-need.result.late
    c.is_err.ensures.value c.if-is_err.false c.room-room.ensures.rules c.requires.ready.names c.requires.canonical c.look_at-need.ensures.need c.room-room.ensures.room c.if-need-room.false c.look_at-need.ensures.late c.in_default.is c.look_at-need.ensures.places
    c.add_names.ensures.index c.add_names.ensures.longer c.add_names.ensures.forest c.add_names.ensures.last c.add_names.ensures.keeps in
    let all = put_taken c.args.keeper.now c.add_names.new.keeper c.args.names.now c.args.time c.look_at-need.result.places put content c.args.values.now c.look_at-need.result.need c.room-room.result holds.keeps c.look_at-need.ensures.need c.room-room.ensures.room c.if-need-room.false in
    let held = put_holds c.args.keeper.now c.add_names.new.keeper c.args.names.now c.args.time c.look_at-need.result.places put content (g.D.Outside.state c.args.disk.now) holds in
    put_passes content c.args.names.now _ _ (g.D.Outside.state c.args.disk.now) (g.D.Outside.state c.accept_all.new.disk) all (c.accept_all.ensures.moments told (named content c.args.names.now) held)

added : {T E : Type 0} (host : HostState) (r : Result T E) (is : Bool) (old new : Keeper) (names : List (List ℕ)) → is ≡ is_err r → is ≡ false
    → OnOk r (new.forest ≡ record old.forest { meta = with_all old.forest.meta names; frames = new.forest.frames; levels = levels_with old.forest.meta old.forest.levels names }) → KeepsOrigins host host old.forest.meta new.forest.meta
added host (Ok v) is old new names value good forest = subst (λ (t : Trees). KeepsOrigins host host old.forest.meta t.meta) (sym forest) (all_keep host names old.forest.meta)
added host (Err e) is old new names value good forest = absurd (false≢true (sym good ∙ value))

pub returns-in_err-accept_all-clause-stops : goal.returns-in_err-accept_all-clause-stops
returns-in_err-accept_all-clause-stops g c =
    let named = added (g.D.Outside.state c.args.disk.now) c.add_names.result c.is_err.result c.args.keeper.now c.add_names.new.keeper c.args.names.now c.is_err.ensures.value c.if-is_err.false c.add_names.ensures.forest in
    let stops = stops_of _ _ _ _ _ _ named c.in_err-accept_all.ensures.stops in
    search rules

pub returns-clause-stops : goal.returns-clause-stops
returns-clause-stops g c =
    let named = added (g.D.Outside.state c.args.disk.now) c.add_names.result c.is_err.result c.args.keeper.now c.add_names.new.keeper c.args.names.now c.is_err.ensures.value c.if-is_err.false c.add_names.ensures.forest in
    let stops = stops_of _ _ _ _ _ _ named c.in_ok-accept_all.ensures.stops in
    search rules

pub returns-clause-becomes : goal.returns-clause-becomes
returns-clause-becomes g c told found was =
    let named = added (g.D.Outside.state c.args.disk.now) c.add_names.result c.is_err.result c.args.keeper.now c.add_names.new.keeper c.args.names.now c.is_err.ensures.value c.if-is_err.false c.add_names.ensures.forest in
    c.in_ok-accept_all.ensures.becomes told found (named found was)

pub returns-then-need-room-clause-becomes : goal.returns-then-need-room-clause-becomes
returns-then-need-room-clause-becomes g c told found was = was

pub returns-in-Some-clause-becomes : goal.returns-in-Some-clause-becomes
returns-in-Some-clause-becomes g c told found was = was
