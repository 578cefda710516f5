use Rattle.ak_tree.proofs.forest.Forest.view_in_time.Goals as goal

pub returns-then-self-from-clause-becomes : goal.returns-then-self-from-clause-becomes
returns-then-self-from-clause-becomes g c told found was = was
