use Rattle.std.proofs.Common.{◌∙◌, sym, subst}
use Rattle.ak_host.specs.Files.{Files, file_at}
use Rattle.ak_gate.specs.declared.half.Half.TheVariants.{Second}
use Rattle.ak_gate.proofs.Found.{WasRead, found_is}
use Rattle.ak_gate.proofs.opening.read_found.Goals as goal

pub returns-in-Some-clause-found : goal.returns-in-Some-clause-found
returns-in-Some-clause-found g c told =
    let file = file_at (g.D.Outside.state c.args.disk.now).files 0 in
    let second = subst (λ (files : Files). WasRead c.args.slot Second (file_at files 0) c.in_ok-second.second) (c.in_ok-first.ensures.only told).files (c.in_ok-second.ensures.head told) in
    found_is c.args.slot file c.in_ok-first.first c.in_ok-second.second c.in-Some.found (c.in_ok-first.ensures.head told) second (sym c.newer.ensures ∙ c.in-Some.is)
