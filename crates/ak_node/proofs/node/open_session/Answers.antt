use Rattle.std.proofs.Common.{arith, rules, sym, ◌∙◌, ap, subst, ◌≡◌, List}
use Rattle.std.specs.List.{insert}
use Rattle.ak_node.specs.declared.session.Session.{Session}
use Rattle.ak_node.specs.Standing.{AreSessions, place_of}
use Rattle.ak_node.proofs.Sessions.{place_within, placed, open_already, open_too_many, open_now}
use Rattle.ak_node.proofs.node.open_session.Goals as goal

pub returns-then-is_open-clause-opened : goal.returns-then-is_open-clause-opened
returns-then-is_open-clause-opened c world are =
    let here = subst (λ (l : List Session). AreSessions l world.sessions) (sym c.as_slice-2.ensures.value) are in
    open_already world c.args.sessions.now.items c.args.port are ((c.is_open.ensures.opened world.sessions here).0 c.if-is_open.true)

pub returns-then-len-ge-MOST_SESSIONS-clause-opened : goal.returns-then-len-ge-MOST_SESSIONS-clause-opened
returns-then-len-ge-MOST_SESSIONS-clause-opened c world are =
    let here = subst (λ (l : List Session). AreSessions l world.sessions) (sym c.as_slice-2.ensures.value) are in
    open_too_many world c.args.sessions.now.items c.args.port are (λ some. let is = (c.is_open.ensures.opened world.sessions here).1 some in cc) (omega (arith, c.len.ensures, c.if-len-ge-MOST_SESSIONS.true))

pub insert-requires : goal.insert-requires
insert-requires c =
    let at : c.place-at.result ≡ place_of c.args.sessions.now.items c.args.port = c.place-at.ensures ∙ ap (λ (l : List Session). place_of l c.args.port) c.as_slice.ensures.value in
    omega (arith, at, place_within c.args.sessions.now.items c.args.port)

pub returns-clause-within : goal.returns-clause-within
returns-clause-within c =
    let at : c.place-at.result ≡ place_of c.args.sessions.now.items c.args.port = c.place-at.ensures ∙ ap (λ (l : List Session). place_of l c.args.port) c.as_slice.ensures.value in
    let items : c.insert.new.self.items ≡ insert c.args.sessions.now.items c.place-at.result c.in_ok-new.field-0 = search rules in
    placed c.args.sessions.now.items c.insert.new.self.items c.args.port c.place-at.result c.in_ok-new.field-0 at items c.in_ok-new.ensures.port

pub returns-clause-opened : goal.returns-clause-opened
returns-clause-opened c world are =
    let here = subst (λ (l : List Session). AreSessions l world.sessions) (sym c.as_slice-2.ensures.value) are in
    let at : c.place-at.result ≡ place_of c.args.sessions.now.items c.args.port = c.place-at.ensures ∙ ap (λ (l : List Session). place_of l c.args.port) c.as_slice.ensures.value in
    let items : c.insert.new.self.items ≡ insert c.args.sessions.now.items c.place-at.result c.in_ok-new.field-0 = search rules in
    open_now world c.args.sessions.now.items c.insert.new.self.items c.args.port c.place-at.result c.in_ok-new.field-0 are
    (λ some. let is = (c.is_open.ensures.opened world.sessions here).1 some in cc) (omega (arith, c.len.ensures, c.if-len-ge-MOST_SESSIONS.false)) at items c.in_ok-new.ensures.port c.in_ok-new.ensures.reads
