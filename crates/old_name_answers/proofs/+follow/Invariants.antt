use Rattle.old_name_answers.proofs.+follow.Given as goal

-- the number of steps left
abbrev pub decreases-follow : goal.decreases-follow
decreases-follow l = l.left
