use Rattle.std.proofs.Common.{◌∙◌, sym, ap}
use Rattle.ak_host.specs.Marks.{Mark, told_to}
use Rattle.ak_memhost.specs.Record.{start}
use Rattle.ak_memhost.proofs.Recorded.{mark_is}
use Rattle.ak_memhost.proofs.host.MemHost.told.Goals as goal

pub returns : goal.returns
returns c =
    let host = c.args.self.now in
    c.by.ensures ∙ host.current.heard_is c.args.port
    ∙ ap (λ (mark : Mark). told_to c.args.port mark.tellings) (sym (mark_is host.turns.items (start host.base.items) host.calls.items host.disk_faults host.port_faults))
