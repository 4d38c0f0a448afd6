use native.Mathlib.Omega.{arith}
use mathlib.Core.Path.{ap, ◌∙◌}
use Prim.Native.Nat.{◌*◌}
use lib.IntN.{ℤ, nat_abs}
use mir.Facts.{to_z-of_z}
use Rattle.signed.proofs.IntegerLaws.{zigzag-below, zigzag-above, Negative, negative, minus-of, Natural, natural}
use Rattle.signed.proofs.zigzag.Goals as goal
use Rattle.signed.proofs.zigzag.Goals.{Else-v-lt0, Then-v-lt0}

under : (c : goal.Then-v-lt0) → Negative c.args.v
under c =
    let h = c.ranges.v in
    negative _ (rw (to_z-of_z h) at c.if-v-ltminus2147483648.false) (rw (to_z-of_z h) at c.if-v-lt0.true)

over : (c : goal.Else-v-lt0) → Natural c.args.v
over c =
    let h = c.ranges.v in
    natural _ (rw (to_z-of_z h) at c.if-v-gt2147483647.false) (rw (to_z-of_z h) at c.if-v-lt0.false)

pub returns-then-v-ltminus2147483648 : goal.returns-then-v-ltminus2147483648
returns-then-v-ltminus2147483648 c = zigzag-below _ (rw (to_z-of_z c.ranges.v) at c.if-v-ltminus2147483648.true)

pub returns-then-v-gt2147483647 : goal.returns-then-v-gt2147483647
returns-then-v-gt2147483647 c = zigzag-above _ (rw (to_z-of_z c.ranges.v) at c.if-v-gt2147483647.true)

pub overflow_sub-result : goal.overflow_sub-result
overflow_sub-result c = rw (to_z-of_z c.ranges.v, (under c).minus) (record { sfits = omega (arith, (under c).small) })

pub overflow_cast-result : goal.overflow_cast-result
overflow_cast-result c = rw (minus-of _ c.ranges.v (under c)) (tt, record { fits = omega (arith, (under c).small) })

pub overflow_mul-result : goal.overflow_mul-result
overflow_mul-result c = rw (minus-of _ c.ranges.v (under c)) (record { fits = omega (arith, (under c).small) })

pub overflow_add-result : goal.overflow_add-result
overflow_add-result c = rw (minus-of _ c.ranges.v (under c)) (record { fits = omega (arith, (under c).small) })

pub returns-then-v-lt0 : goal.returns-then-v-lt0
returns-then-v-lt0 c = rw (minus-of _ c.ranges.v (under c)) (under c).is

pub overflow_cast-result-2 : goal.overflow_cast-result-2
overflow_cast-result-2 c = rw (to_z-of_z c.ranges.v, (over c).same) (tt, record { fits = omega (arith, (over c).small) })

pub overflow_mul-result-2 : goal.overflow_mul-result-2
overflow_mul-result-2 c = rw (to_z-of_z c.ranges.v, (over c).same) (record { fits = omega (arith, (over c).small) })

pub returns : goal.returns
returns c = rw (to_z-of_z c.ranges.v) (ap (λ (z : ℤ). nat_abs z * 2) (over c).same ∙ (over c).is)
