use Rattle.std.proofs.Common.{arith}
use Rattle.std.proofs.lemmas.Bool.{ltb-true}
use Rattle.ak_node.proofs.Sessions.{open_same, not_open}
use Rattle.ak_node.proofs.node.is_open.Goals as goal

pub returns-then-at-sessions-clause-opened : goal.returns-then-at-sessions-clause-opened
returns-then-at-sessions-clause-opened c streams are =
    open_same c.args.sessions.now streams c.args.port c.args.at c.index-sessions-at.result are c.requires c.if-at-sessions.true

pub returns-else-at-sessions-clause-opened : goal.returns-else-at-sessions-clause-opened
returns-else-at-sessions-clause-opened c streams are =
    (λ t. absurd (omega (arith, c.if-at-sessions.false, ltb-true _ _ t)), λ some. absurd (not_open c.args.sessions.now streams c.args.port c.args.at are c.requires c.if-at-sessions.false some))
