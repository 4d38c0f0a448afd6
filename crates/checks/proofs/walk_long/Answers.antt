use native.Mathlib.Omega.{arith}
use Rattle.check_steps.proofs.StepLaws.{started, room-all}
use Rattle.checks.proofs.walk_long.Goals as goal

pub walk_with-requires : goal.walk_with-requires
walk_with-requires c = started _ 8192 8449 (room-all c.args.s.now) (omega arith)

pub returns : goal.returns
returns c = c.walk_with.ensures
