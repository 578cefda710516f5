use Rattle.std.proofs.Common.{ℕ, ◌/◌, ap}
use Rattle.ak_scene.proofs.Powers.{power}
use Rattle.ak_scene.proofs.counting.made.Goals as goal

pub returns : goal.returns
returns c = ap (λ (n : ℕ). c.args.leaves / n) (power c.args.level)
