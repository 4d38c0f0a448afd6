use mir.Facts.{to_z-of_z}
use Rattle.signed.proofs.SignLaws.{not-negative}
use Rattle.table_questions.proofs.RowLaws.{natural-below, natural-of}
use Rattle.table_questions.proofs.count_of.Goals as goal

pub returns-then-z-lt0 : goal.returns-then-z-lt0
returns-then-z-lt0 c = natural-below c.args.z (rw (to_z-of_z c.ranges.z) at c.if-z-lt0.true)

pub overflow_cast-result : goal.overflow_cast-result
overflow_cast-result c = rw (to_z-of_z c.ranges.z) (not-negative _ c.ranges.z (rw (to_z-of_z c.ranges.z) at c.if-z-lt0.false))

pub returns : goal.returns
returns c = rw (to_z-of_z c.ranges.z) (natural-of c.args.z (rw (to_z-of_z c.ranges.z) at c.if-z-lt0.false))
