use Rattle.std.proofs.Common.{◌∙◌}
use Rattle.ak_meta.proofs.Levels.{carry_rest}
use Rattle.ak_meta.proofs.entering.levels.Goals as goal

pub returns-clause-count : goal.returns-clause-count
returns-clause-count c = c.carry.ensures.carry ∙ carry_rest c.args.leaves
