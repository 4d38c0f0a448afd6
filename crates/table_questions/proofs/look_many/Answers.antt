use native.Mathlib.Omega.{arith}
use mir.Facts.{to_z-of_z}
use Rattle.halving.proofs.LookLaws.{due-near}
use Rattle.table_questions.proofs.look_many.Goals as goal

pub returns-then-n-lt64 : goal.returns-then-n-lt64
returns-then-n-lt64 c = (c.requires.0, due-near _ _ _ (omega (arith, c.if-n-lt64.true)) c.requires.1.0)

pub look_due-b1-requires : goal.look_due-b1-requires
look_due-b1-requires c = (
  rw (to_z-of_z c.ranges.ticks) c.requires.0,
  (due-near _ _ _ (omega (arith, c.requires.1.1)) c.requires.1.0, (omega arith, omega arith)),
)

pub returns : goal.returns
returns c = rw (to_z-of_z c.ranges.ticks) at c.look_due.ensures
