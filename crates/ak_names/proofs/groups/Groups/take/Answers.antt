use Rattle.std.proofs.Common.{rules}
use Rattle.ak_names.proofs.Grouped.{taken_none, untracked}
use Rattle.ak_names.proofs.groups.Groups.take.Goals as goal

pub returns-then-not-is_selected : goal.returns-then-not-is_selected
returns-then-not-is_selected c = λ keys is named groups many.
    taken_none named _ _ _ (untracked c.args.of.now c.args.wheres.now keys c.args.name.now (search rules)) groups
