use native.Mathlib.Omega.{arith}
use Rattle.answer_lines.proofs.DecimalLaws.{decimal-short, decimal-some}
use Rattle.answer_lines.proofs.ReplyLaws.{length-one, length_more}
use Rattle.answer_lines.proofs.decimal_length.Goals as goal

pub overflow_add-n : goal.overflow_add-n
overflow_add-n c = omega (arith, decimal-short c.args.v (omega arith), decimal-some c.loop-rest.rest)

pub loop-rest-preserved : goal.loop-rest-preserved
loop-rest-preserved c = let e = c.loop-rest.invariant in omega (arith, length_more c.loop-rest.rest (omega arith))

pub returns : goal.returns
returns c = let e = c.loop-rest.invariant in omega (arith, length-one c.loop-rest.rest (omega arith))
