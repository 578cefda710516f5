use Rattle.ak_top.proofs.Across as lemma
use Rattle.ak_top.proofs.laws.kept_disks_open.Goals as goal

pub returns : goal.returns
returns c = lemma.opens_kept
