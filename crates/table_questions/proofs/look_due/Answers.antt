use native.Mathlib.Omega.{arith}
use mir.Facts.{to_z-of_z}
use Rattle.halving.proofs.LookLaws.{due-fewer, due-next}
use Rattle.table_questions.proofs.look_due.Goals as goal

pub returns-then-n-half : goal.returns-then-n-half
returns-then-n-half c = (c.requires.0, due-fewer _ _ _ c.requires.1.0 c.if-n-half.true)

pub look-requires : goal.look-requires
look-requires c = (rw (to_z-of_z c.ranges.ticks) c.requires.0, omega (arith, c.requires.1.0.from c.if-n-half.false, c.requires.1.1.0))

pub returns : goal.returns
returns c = (
  rw (to_z-of_z c.ranges.ticks) at c.look.ensures.seeks,
  due-next _ _ _ c.requires.1.0 _ c.if-n-half.false c.look.ensures.least c.look.ensures.most,
)
