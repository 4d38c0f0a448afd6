use native.Mathlib.Omega.{arith}
use Rattle.pool.proofs.FillLaws.{short-end, short-long, short-past, short-is}
use Rattle.pool.proofs.short.Goals as goal

pub returns-then-d-at : goal.returns-then-d-at
returns-then-d-at c = short-end _ _ _ c.if-d-at.true

pub overflow_cast-n : goal.overflow_cast-n
overflow_cast-n c = omega (arith, c.shared_slice_known-1.given c.args.at)

pub returns-then-n-gt127 : goal.returns-then-n-gt127
returns-then-n-gt127 c = short-long _ _ _ c.if-d-at.false c.if-n-gt127.true

pub returns-then-at-n : goal.returns-then-at-n
returns-then-at-n c = short-is _ _ _ c.if-d-at.false c.if-n-gt127.false c.if-at-n.true

pub returns : goal.returns
returns c = short-past _ _ _ c.if-d-at.false c.if-n-gt127.false c.if-at-n.false
