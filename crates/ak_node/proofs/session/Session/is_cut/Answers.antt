use Rattle.ak_node.proofs.Cutting.{cut_is, faulted_not_cut}
use Rattle.ak_node.proofs.session.Session.is_cut.Goals as goal

pub returns-then-not-self : goal.returns-then-not-self
returns-then-not-self c stream has = cut_is c.args.self.now stream c.inside.result has c.if-not-self.true c.inside.ensures

pub returns-else-not-self : goal.returns-else-not-self
returns-else-not-self c stream has = faulted_not_cut c.args.self.now stream has c.if-not-self.false
