use native.Mathlib.Omega.{arith}
use Rattle.ids.proofs.LayoutLaws.{low-none, low_read}
use Rattle.ids.proofs.low.Goals as goal

pub returns-then-j-eq0 : goal.returns-then-j-eq0
returns-then-j-eq0 c = low-none _ _ c.if-j-eq0.true

pub overflow_cast-result : goal.overflow_cast-result
overflow_cast-result c = omega (arith, low_read c.args.order.now _ c.if-j-eq0.false, c.requires.2)

pub returns : goal.returns
returns c = low_read _ _ c.if-j-eq0.false
