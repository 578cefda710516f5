use Rattle.ak_pool.proofs.Theirs.{moved_used_to, moved_used_from, moved_series, moved_leaf}
use Rattle.ak_pool.proofs.laws.moved_leaves_all.Goals as goal

pub returns-clause-used : goal.returns-clause-used
returns-clause-used c us f g used = (moved_used_to us f g used, moved_used_from us f g)

pub returns-clause-series : goal.returns-clause-series
returns-clause-series c = moved_series

pub returns-clause-leaf : goal.returns-clause-leaf
returns-clause-leaf c = moved_leaf
