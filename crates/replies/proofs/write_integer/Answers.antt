use native.Mathlib.Omega.{arith}
use mir.Facts.{to_z-of_z}
use Rattle.base.specs.Writing.{Writes}
use Rattle.replies.specs.Functions.{integer_form}
use Rattle.replies.proofs.IntegerLaws.{negative, Natural, natural}
use Rattle.replies.proofs.write_integer.Goals as goal
use Rattle.replies.proofs.write_integer.Goals.{After-slice_known-2-1, Else-v-lt0}

pub returns-then-v-lt0 : goal.returns-then-v-lt0
returns-then-v-lt0 c = negative c.args.v _ (rw (to_z-of_z c.ranges.v) at c.if-v-lt0.true)

at_least : (c : goal.Else-v-lt0) → Natural c.args.v
at_least c = natural _ c.ranges.v (rw (to_z-of_z c.ranges.v) at c.if-v-lt0.false)

pub overflow_cast-v : goal.overflow_cast-v
overflow_cast-v c = rw (to_z-of_z c.ranges.v, (at_least c).same) (tt, record { fits = omega (arith, (at_least c).small) })

wrote_it : (c : goal.After-slice_known-2-1) → Writes (integer_form c.args.v) c.args.out.now c.write_count.result c.write_count.new.out
wrote_it c = rw (at_least (goal.at.returns c).Else-v-lt0).same (rw (to_z-of_z c.ranges.v, (at_least (goal.at.returns c).Else-v-lt0).same) at c.write_count.ensures)

pub returns : goal.returns
returns c = wrote_it c
