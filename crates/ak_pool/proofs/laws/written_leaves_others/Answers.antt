use Rattle.ak_pool.proofs.Theirs.{lent_used_to, lent_used_from, lent_series, lent_leaf, lent_own}
use Rattle.ak_pool.proofs.laws.written_leaves_others.Goals as goal

pub returns-clause-used : goal.returns-clause-used
returns-clause-used c us f g points = (lent_used_to us f g points, lent_used_from us f g points)

pub returns-clause-series : goal.returns-clause-series
returns-clause-series c = lent_series

pub returns-clause-others : goal.returns-clause-others
returns-clause-others c = lent_leaf

pub returns-clause-own : goal.returns-clause-own
returns-clause-own c = lent_own
