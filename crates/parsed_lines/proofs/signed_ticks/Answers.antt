use Prim.Native.Nat.{◌-◌}
use native.Mathlib.Omega.{arith}
use mathlib.Core.Path.{ap, ◌∙◌}
use Rattle.lines.specs.Question.{ticks_of}
use Rattle.lines.proofs.QuestionLaws.{ticks-plus, minus-fits, ticks-minus, ticks-zero, past-plus, past-minus}
use Rattle.parsed_lines.proofs.signed_ticks.Goals as goal

pub returns-then-v-eq0 : goal.returns-then-v-eq0
returns-then-v-eq0 c = rw c.if-minus.true (ticks-zero _ c.if-v-eq0.true)

pub overflow_sub-result : goal.overflow_sub-result
overflow_sub-result c = minus-fits (c.args.v - 1) (omega arith)

pub returns-then-k-lt9223372036854775808 : goal.returns-then-k-lt9223372036854775808
returns-then-k-lt9223372036854775808 c = rw c.if-minus.true (ticks-minus (c.args.v - 1) (omega arith) ∙ ap (ticks_of _) (omega arith))

pub returns-then-minus : goal.returns-then-minus
returns-then-minus c = rw c.if-minus.true (past-minus (c.args.v - 1) (omega arith) ∙ ap (ticks_of _) (omega arith))

pub returns-then-v-lt9223372036854775808 : goal.returns-then-v-lt9223372036854775808
returns-then-v-lt9223372036854775808 c = rw c.if-minus.false (ticks-plus _ (omega arith))

pub returns : goal.returns
returns c = rw c.if-minus.false (past-plus _ (omega arith))
