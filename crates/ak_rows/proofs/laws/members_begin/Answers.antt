use Rattle.ak_rows.specs.Ahead.{IsInOrder}
use Rattle.ak_rows.proofs.Distinct.{starts_all_apart, begins_all}
use Rattle.ak_rows.proofs.laws.members_begin.Goals as goal

pub returns-clause-apart : goal.returns-clause-apart
returns-clause-apart c q tracks answers = starts_all_apart tracks answers.distinct

pub returns-clause-order : goal.returns-clause-order
returns-clause-order c back points tracks had = begins_all back (λ s. IsInOrder back (points s)) points tracks (λ s order. order) had
