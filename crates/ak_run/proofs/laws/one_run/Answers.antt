use Rattle.ak_run.specs.Run.{world_of}
use Rattle.ak_run.proofs.Turns.{one_run, one_answer}
use Rattle.ak_run.proofs.laws.one_run.Goals as goal

pub returns-clause-worlds : goal.returns-clause-worlds
returns-clause-worlds c view turns v w a b g h = one_run turns (world_of view) v w a b g h

pub returns-clause-answers : goal.returns-clause-answers
returns-clause-answers c view turns port a b g h = one_answer view turns port a b g h
