use native.Mathlib.Omega.{arith}
use Rattle.ids.proofs.LayoutLaws.{high_end, high_read}
use Rattle.ids.proofs.high.Goals as goal

pub returns-then-j-b : goal.returns-then-j-b
returns-then-j-b c = high_end _ _ _ _ c.if-j-b.true

pub overflow_cast-result : goal.overflow_cast-result
overflow_cast-result c = omega (arith, high_read c.args.order.now c.args.m _ _ c.if-j-b.false, c.requires.3)

pub returns : goal.returns
returns c = high_read _ _ _ _ c.if-j-b.false
