use native.Mathlib.Omega.{arith}
use mir.Facts.{to_z-of_z}
use Rattle.signed.proofs.IntegerLaws.{below, above, Inside, inside, sum-of}
use Rattle.wall_times.proofs.local_number.Goals as goal
use Rattle.wall_times.proofs.local_number.Goals.{Else-local-gt2534023871999999999}

in-range : (c : goal.Else-local-gt2534023871999999999) → Inside 747584640000000000 621356831999999999 2534023871999999999 c.args.local
in-range c =
    let h = c.ranges.local in
    inside _ _ _ (omega arith) _ (rw (to_z-of_z h) at c.if-local-ltminus621356832000000000.false) (rw (to_z-of_z h) at c.if-local-gt2534023871999999999.false)

pub returns-then-local-ltminus621356832000000000 : goal.returns-then-local-ltminus621356832000000000
returns-then-local-ltminus621356832000000000 c = below _ _ _ _ (rw (to_z-of_z c.ranges.local) at c.if-local-ltminus621356832000000000.true)

pub returns-then-local-gt2534023871999999999 : goal.returns-then-local-gt2534023871999999999
returns-then-local-gt2534023871999999999 c = above _ _ _ _ (rw (to_z-of_z c.ranges.local) at c.if-local-gt2534023871999999999.true)

pub overflow_add-result : goal.overflow_add-result
overflow_add-result c = rw (to_z-of_z c.ranges.local, (in-range c).sum) (record { sfits = omega (arith, (in-range c).most) })

pub overflow_cast-result : goal.overflow_cast-result
overflow_cast-result c = rw (sum-of _ _ _ (omega arith) _ c.ranges.local (in-range c)) (tt, record { fits = omega (arith, (in-range c).most) })

pub returns : goal.returns
returns c = rw (sum-of _ _ _ (omega arith) _ c.ranges.local (in-range c)) (in-range c).is
