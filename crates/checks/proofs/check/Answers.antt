use Rattle.checks.proofs.check.Goals as goal

pub returns : goal.returns
returns c = c.check_flags.ensures.0
