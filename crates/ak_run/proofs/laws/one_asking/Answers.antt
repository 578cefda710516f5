use Rattle.ak_run.proofs.OneAsking as lemma
use Rattle.ak_run.proofs.laws.one_asking.Goals as goal

pub returns : goal.returns
returns c = lemma.one_asking
