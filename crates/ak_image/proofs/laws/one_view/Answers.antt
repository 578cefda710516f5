use Rattle.ak_image.proofs.Standing.{one_view}
use Rattle.ak_image.proofs.laws.one_view.Goals as goal

pub returns : goal.returns
returns c = one_view
