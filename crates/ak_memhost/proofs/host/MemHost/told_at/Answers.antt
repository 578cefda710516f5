use Rattle.std.proofs.Common.{◌≡◌, ◌≤◌, ◌/◌, ◌∙◌, length, take, sym, ap, arith}
use Rattle.ak_host.specs.Marks.{Mark, told_to}
use Rattle.ak_memhost.specs.Record.{start}
use Rattle.ak_memhost.specs.State.{told_in}
use Rattle.ak_memhost.proofs.Recorded.{mark_is}
use Rattle.ak_memhost.proofs.Counted.{told_after, told_prefix, mark_by, mark_past}
use Rattle.ak_memhost.proofs.host.MemHost.told_at.Goals as goal

pub returns-then-number-len : goal.returns-then-number-len
returns-then-number-len c =
    let host = c.args.self.now in
    let past : length host.calls.items ≤ c.args.moment / 2 = omega (arith, c.if-number-len.true) in
    ap length c.told.ensures
    ∙ ap (λ (mark : Mark). length (told_to c.args.port mark.tellings))
    (mark_is host.turns.items (start host.base.items) host.calls.items 0 0
    ∙ sym (mark_past host.turns.items (start host.base.items) host.calls.items c.args.moment (c.args.moment / 2) (omega arith) (omega arith) past))

pub count_told-requires : goal.count_told-requires
count_told-requires c =
    let host = c.args.self.now in
    let all : length c.told.result.now ≡ told_in c.args.port host.calls.items =
    ap length c.told.ensures
    ∙ ap (λ (mark : Mark). length (told_to c.args.port mark.tellings)) (mark_is host.turns.items (start host.base.items) host.calls.items 0 0)
    ∙ omega (arith, told_after host.turns.items c.args.port (start host.base.items) host.calls.items) in
    omega (arith, told_prefix c.args.port (c.args.moment / 2) c.deref.result.now, ap (told_in c.args.port) c.deref.ensures.value, all, c.len.ensures, c.len.type_inv)

pub returns : goal.returns
returns c =
    let host = c.args.self.now in
    let before = take (c.args.moment / 2) host.calls.items in
    c.count_told.ensures
    ∙ ap (λ calls. told_in c.args.port (take (c.args.moment / 2) calls)) c.deref.ensures.value
    ∙ omega (arith, told_after host.turns.items c.args.port (start host.base.items) before)
    ∙ ap (λ (mark : Mark). length (told_to c.args.port mark.tellings))
    (sym (mark_by host.turns.items (start host.base.items) host.calls.items c.args.moment (c.args.moment / 2) (omega arith) (omega arith)))
