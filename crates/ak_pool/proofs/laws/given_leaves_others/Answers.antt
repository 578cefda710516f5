use Rattle.ak_pool.proofs.Theirs.{given_used_to, given_used_from, given_series, given_leaf}
use Rattle.ak_pool.proofs.laws.given_leaves_others.Goals as goal

pub returns-clause-used : goal.returns-clause-used
returns-clause-used c us f g = (given_used_to us f g, λ h. given_used_from us f g h.1 h.0)

pub returns-clause-series : goal.returns-clause-series
returns-clause-series c = given_series

pub returns-clause-leaf : goal.returns-clause-leaf
returns-clause-leaf c = given_leaf
