use Rattle.ak_levels.proofs.Leaves.{leaf_made}
use Rattle.ak_levels.proofs.referring.refer.Goals as goal

pub returns : goal.returns
returns c = leaf_made c.args.at c.args.points.now c.value_of.result c.unwrap-summary.result c.requires.history c.unwrap-summary.ensures c.value_of.ensures.some
