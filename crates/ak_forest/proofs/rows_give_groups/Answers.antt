use Rattle.ak_forest.proofs.WholeRows.{rows_are_whole}
use Rattle.ak_forest.proofs.rows_give_groups.Goals as goal

pub returns : goal.returns
returns c = rows_are_whole
