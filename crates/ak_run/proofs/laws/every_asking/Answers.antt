use Rattle.ak_run.proofs.EveryAsking as lemma
use Rattle.ak_run.proofs.laws.every_asking.Goals as goal

pub returns : goal.returns
returns c = lemma.every_asking
