use mir.Facts.{to_z-of_z}
use Rattle.signed.proofs.SignLaws.{Negative, negative, less-of, not-negative}
use native.Mathlib.Omega.{arith}
use Rattle.signed.proofs.magnitude.Goals as goal
use Rattle.signed.proofs.magnitude.Goals.{Then-z-lt0}

below : (c : goal.Then-z-lt0) → Negative c.args.z
below c = negative _ c.ranges.z (rw (to_z-of_z c.ranges.z) at c.if-z-lt0.true)

pub overflow_sub-result : goal.overflow_sub-result
overflow_sub-result c = rw (to_z-of_z c.ranges.z, (below c).is) (record { sfits = (below c).small })

pub overflow_cast-result : goal.overflow_cast-result
overflow_cast-result c = rw (less-of _ c.ranges.z (below c)) (tt, record { fits = omega (arith, (below c).small) })

pub overflow_add-result : goal.overflow_add-result
overflow_add-result c = rw (less-of _ c.ranges.z (below c)) (record { fits = omega (arith, (below c).small) })

pub returns-then-z-lt0 : goal.returns-then-z-lt0
returns-then-z-lt0 c = rw (less-of _ c.ranges.z (below c)) (below c).size

pub overflow_cast-result-2 : goal.overflow_cast-result-2
overflow_cast-result-2 c = rw (to_z-of_z c.ranges.z) (not-negative _ c.ranges.z (rw (to_z-of_z c.ranges.z) at c.if-z-lt0.false))
