use native.Mathlib.Omega.{arith}
use Rattle.check_steps.proofs.StepLaws.{started}
use Rattle.checks.proofs.walk_short.Goals as goal

pub walk_with-requires : goal.walk_with-requires
walk_with-requires c = started _ 256 513 c.requires (omega arith)

pub returns : goal.returns
returns c = c.walk_with.ensures
