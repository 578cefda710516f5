use Rattle.ak_forest.proofs.More.{few_reads}
use Rattle.ak_forest.proofs.rescue_reads_few.Goals as goal

pub returns : goal.returns
returns c = few_reads
