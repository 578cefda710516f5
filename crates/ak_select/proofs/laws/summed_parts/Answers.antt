use Rattle.ak_select.proofs.Summed.{summed_append}
use Rattle.ak_select.proofs.laws.summed_parts.Goals as goal

pub returns : goal.returns
returns c = summed_append
