use Rattle.ak_image.proofs.Agreeing.{laid_agree}
use Rattle.ak_image.proofs.laws.laid_agrees.Goals as goal

pub returns : goal.returns
returns c = laid_agree
