use Rattle.std.proofs.Common.{sym, subst, ◌∙◌}
use Rattle.ak_memhost.specs.Torn.{torn}
use Rattle.ak_memhost.specs.Record.{start}
use Rattle.ak_memhost.specs.State.{IsLeft, instant_at}
use Rattle.ak_memhost.specs.Host.{drive_at_moment}
use Rattle.ak_memhost.proofs.Outcomes.{if_ok}
use Rattle.ak_memhost.proofs.Recorded.{no_calls_files, no_calls_image}
use Rattle.ak_memhost.proofs.Replay.{image_left}
use Rattle.ak_memhost.proofs.Tears.{torn_settled}
use Rattle.ak_memhost.proofs.host.MemHost.image.Goals as goal

pub returns-in-Ok-clause-left : goal.returns-in-Ok-clause-left
returns-in-Ok-clause-left c =
    let host = c.args.self.now in
    let allowed = image_left host.turns.items (start host.base.items) host.calls.items c.args.moment _ c.in-Ok.ensures.allowed in
    if_ok c.over.result c.over.ensures.over (λ image over.
    subst (λ disk. IsLeft (instant_at host.turns.items (start host.base.items) host.calls.items c.args.moment).drives disk)
    (sym (no_calls_files image.turns.items image.base.items c.in-Ok.base.items image.calls.items image.disk_faults image.port_faults over.calls over.base_is))
    allowed)

pub returns-in-Ok-clause-settled : goal.returns-in-Ok-clause-settled
returns-in-Ok-clause-settled c =
    let host = c.args.self.now in
    let drive = drive_at_moment host c.args.moment in
    if_ok c.over.result c.over.ensures.over (λ image over disk left.
    let base_is = over.base_is ∙ c.in-Ok.ensures.base in
    torn_settled c.args.tears.now drive disk (no_calls_image image.turns.items image.base.items (torn c.args.tears.now drive) image.calls.items image.disk_faults image.port_faults disk over.calls base_is left)
    ∙ sym (no_calls_files image.turns.items image.base.items (torn c.args.tears.now drive) image.calls.items image.disk_faults image.port_faults over.calls base_is))
