use native.Mathlib.Omega.{arith}
use mir.Facts.{to_z-of_z}
use Rattle.answer_lines.proofs.DecimalLaws.{decimal-short}
use Rattle.answer_lines.proofs.ReplyLaws.{signed-minus, signed-plus}
use borrow.Author.Rules.{rules}
use Rattle.answer_lines.proofs.signed_length.Goals as goal

pub overflow_add-result : goal.overflow_add-result
overflow_add-result c = omega (arith, c.decimal_length.ensures, decimal-short c.magnitude.result (search rules))

pub returns-then-z-lt0 : goal.returns-then-z-lt0
returns-then-z-lt0 c = rw (signed-minus _ (rw (to_z-of_z c.ranges.z) at c.if-z-lt0.true), c.decimal_length.ensures, c.magnitude.ensures, to_z-of_z c.ranges.z) (omega arith)

pub returns : goal.returns
returns c = rw (signed-plus _ (rw (to_z-of_z c.ranges.z) at c.if-z-lt0.false), c.decimal_length-2.ensures, c.magnitude-2.ensures, to_z-of_z c.ranges.z)
