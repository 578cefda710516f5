use Rattle.ak_repair.proofs.following.+follow.Given as goal

abbrev pub decreases-follow : goal.decreases-follow
decreases-follow g l = l.left
