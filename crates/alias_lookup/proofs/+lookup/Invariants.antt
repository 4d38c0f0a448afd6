use Rattle.alias_lookup.proofs.+lookup.Given as goal

-- the number of steps left
abbrev pub decreases-lookup : goal.decreases-lookup
decreases-lookup l = l.left
