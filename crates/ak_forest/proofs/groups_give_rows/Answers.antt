use Rattle.ak_forest.proofs.WholeRows.{whole_are_rows}
use Rattle.ak_forest.proofs.groups_give_rows.Goals as goal

pub returns : goal.returns
returns c = whole_are_rows
