use Rattle.ak_record.proofs.laws.one_newest.Goals as goal
use Rattle.ak_record.proofs.Newest.{newest_spells, one_newest as same_newest}

pub returns-clause-one : goal.returns-clause-one
returns-clause-one c = same_newest

pub returns-clause-spells : goal.returns-clause-spells
returns-clause-spells c = newest_spells
