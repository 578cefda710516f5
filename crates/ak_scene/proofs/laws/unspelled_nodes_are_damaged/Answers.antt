use Rattle.ak_scene.proofs.Reaching.{unspelled_damaged}
use Rattle.ak_scene.proofs.laws.unspelled_nodes_are_damaged.Goals as goal

pub returns : goal.returns
returns c = unspelled_damaged
