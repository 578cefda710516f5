use Rattle.ak_query.proofs.EveryQuery as lemma
use Rattle.ak_query.proofs.laws.every_query.Goals as goal

pub returns : goal.returns
returns c = lemma.every_query
