use Rattle.ak_memhost.proofs.Recorded.{array_block}
use Rattle.ak_memhost.proofs.call.SavedBlock.of.Goals as goal

pub returns-clause-block : goal.returns-clause-block
returns-clause-block c = array_block c.args.from.now c.told-from c.fits-from
