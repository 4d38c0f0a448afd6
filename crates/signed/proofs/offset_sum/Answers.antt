use native.Mathlib.Omega.{arith}
use mir.Facts.{to_z-of_z}
use Rattle.signed.proofs.IntegerLaws.{below, above, Inside, inside, sum-of}
use Rattle.signed.proofs.offset_sum.Goals as goal
use Rattle.signed.proofs.offset_sum.Goals.{Else-ms-gt86399999}

in-range : (c : goal.Else-ms-gt86399999) → Inside 86400000 86399998 86399999 c.args.ms
in-range c =
    let h = c.ranges.ms in
    inside _ _ _ (omega arith) _ (rw (to_z-of_z h) at c.if-ms-ltminus86399999.false) (rw (to_z-of_z h) at c.if-ms-gt86399999.false)

pub returns-then-ms-ltminus86399999 : goal.returns-then-ms-ltminus86399999
returns-then-ms-ltminus86399999 c = below _ _ _ _ (rw (to_z-of_z c.ranges.ms) at c.if-ms-ltminus86399999.true)

pub returns-then-ms-gt86399999 : goal.returns-then-ms-gt86399999
returns-then-ms-gt86399999 c = above _ _ _ _ (rw (to_z-of_z c.ranges.ms) at c.if-ms-gt86399999.true)

pub overflow_add-result : goal.overflow_add-result
overflow_add-result c = rw (to_z-of_z c.ranges.ms, (in-range c).sum) (record { sfits = omega (arith, (in-range c).most) })

pub overflow_cast-result : goal.overflow_cast-result
overflow_cast-result c = rw (sum-of _ _ _ (omega arith) _ c.ranges.ms (in-range c)) (tt, record { fits = omega (arith, (in-range c).most) })

pub returns : goal.returns
returns c = rw (sum-of _ _ _ (omega arith) _ c.ranges.ms (in-range c)) (in-range c).is
