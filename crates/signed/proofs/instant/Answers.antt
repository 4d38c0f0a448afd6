use native.Mathlib.Omega.{arith}
use mir.Facts.{to_z-of_z}
use Rattle.signed.proofs.IntegerLaws.{below, above, Inside, inside, sum-of}
use Rattle.base.specs.Moment.{epoch}
use Rattle.signed.proofs.instant.Goals as goal
use Rattle.signed.proofs.instant.Goals.{Else-t-gt2534023007999999999}

in-range : (c : goal.Else-t-gt2534023007999999999) → Inside epoch 621355967999999999 2534023007999999999 c.args.t
in-range c =
    let h = c.ranges.t in
    inside _ _ _ (omega arith) _ (rw (to_z-of_z h) at c.if-t-ltminus621355968000000000.false) (rw (to_z-of_z h) at c.if-t-gt2534023007999999999.false)

pub returns-then-t-ltminus621355968000000000 : goal.returns-then-t-ltminus621355968000000000
returns-then-t-ltminus621355968000000000 c = below _ _ _ _ (rw (to_z-of_z c.ranges.t) at c.if-t-ltminus621355968000000000.true)

pub returns-then-t-gt2534023007999999999 : goal.returns-then-t-gt2534023007999999999
returns-then-t-gt2534023007999999999 c = above _ _ _ _ (rw (to_z-of_z c.ranges.t) at c.if-t-gt2534023007999999999.true)

pub overflow_add-result : goal.overflow_add-result
overflow_add-result c = rw (to_z-of_z c.ranges.t, (in-range c).sum) (record { sfits = omega (arith, (in-range c).most) })

pub overflow_cast-result : goal.overflow_cast-result
overflow_cast-result c = rw (sum-of _ _ _ (omega arith) _ c.ranges.t (in-range c)) (tt, record { fits = omega (arith, (in-range c).most) })

pub returns : goal.returns
returns c = rw (sum-of _ _ _ (omega arith) _ c.ranges.t (in-range c)) (in-range c).is
