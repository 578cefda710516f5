use Rattle.std.proofs.Common.{◌∙◌, ap}
use Rattle.ak_host.specs.Marks.{Mark}
use Rattle.ak_host.specs.Moments.{mark_now}
use Rattle.ak_node.specs.Calls.{console_of}
use Rattle.ak_node.proofs.Tellings.{silent_reply}
use Rattle.ak_node.proofs.answers.tell.Goals as goal

pub returns-in-Ok-clause-silent : goal.returns-in-Ok-clause-silent
returns-in-Ok-clause-silent g c told some =
    ap console_of (c.in-Ok.ensures.told told) ∙ silent_reply (mark_now (g.H.Outside.state c.args.host.now)) c.args.port c.args.bytes.now some

pub returns-in-Ok-clause-turns : goal.returns-in-Ok-clause-turns
returns-in-Ok-clause-turns g c told = ap (λ (m : Mark). m.turns) (c.in-Ok.ensures.told told)
