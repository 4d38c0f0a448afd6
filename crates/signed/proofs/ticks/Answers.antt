use native.Mathlib.Omega.{arith}
use borrow.Author.Tests.{eq-eqb, ne_eqb, lt-ltb, le-ltb}
use mir.Facts.{to_z-of_z}
use Rattle.base.specs.Moment.{epoch, end_of_time}
use Rattle.signed.proofs.IntegerLaws.{less-fits, less-is}
use Rattle.signed.proofs.ticks.Goals as goal

pub returns-then-b-eq0 : goal.returns-then-b-eq0
returns-then-b-eq0 c = rw (eq-eqb _ _ c.if-b-eq0.true)

pub overflow_sub-result : goal.overflow_sub-result
overflow_sub-result c = rw (less-is c.args.b epoch (omega arith) (omega arith) (omega arith)) (less-fits c.args.b epoch (omega arith) (omega arith))

pub returns-then-b-lt3281606784000000000 : goal.returns-then-b-lt3281606784000000000
returns-then-b-lt3281606784000000000 c = let b = c.args.b in
    rw (less-is b epoch (omega arith) (omega arith) (omega arith), ne_eqb b 0 c.if-b-eq0.false, lt-ltb b end_of_time c.if-b-lt3281606784000000000.true)
    (to_z-of_z (less-fits b epoch (omega arith) (omega arith)))

pub returns : goal.returns
returns c = rw (ne_eqb _ _ c.if-b-eq0.false, le-ltb _ _ c.if-b-lt3281606784000000000.false)
