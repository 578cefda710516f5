use Rattle.ak_memhost.proofs.Recorded.{array_block}
use Rattle.ak_memhost.proofs.drive.block_of.Goals as goal

pub returns-clause-block : goal.returns-clause-block
returns-clause-block c = array_block c.args.block.now c.told-block c.fits-block
