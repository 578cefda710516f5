use Rattle.ak_query.proofs.EveryQuery as lemma
use Rattle.ak_query.proofs.laws.one_query.Goals as goal

pub returns : goal.returns
returns c = lemma.one_query
