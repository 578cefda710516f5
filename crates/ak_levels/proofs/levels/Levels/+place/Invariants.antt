use Rattle.ak_levels.proofs.levels.Levels.+place.Given as goal

abbrev pub decreases-place : goal.decreases-place
decreases-place l = l.count
