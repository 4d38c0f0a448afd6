use Prim.Native.Nat.{ℕ}
use native.Mathlib.Omega.{arith}
use mathlib.Core.Path.{◌≡◌, ap, ◌∙◌}
use mathlib.Core.Bool.{true, false}
use lib.IntN.{nat_abs, pos}
use lib.Signed.{lt_z}
use lib.ListN.{length, length-set}
use mir.Facts.{to_z-of_z}
use Rattle.answer_lines.specs.Decimal.{decimal}
use Rattle.answer_lines.proofs.ReplyLaws.{length-minus, signed-plus, put-minus, put-plus}
use Rattle.answer_lines.proofs.put_signed.Goals as goal
use Rattle.answer_lines.proofs.put_signed.Goals.{Else-z-lt0, Then-z-lt0}

is-minus : (c : goal.Then-z-lt0) → lt_z c.args.z (pos 0) ≡ true
is-minus c = rw (to_z-of_z c.ranges.z) at c.if-z-lt0.true

is-plus : (c : goal.Else-z-lt0) → lt_z c.args.z (pos 0) ≡ false
is-plus c = rw (to_z-of_z c.ranges.z) at c.if-z-lt0.false

pub bounds-out-at : goal.bounds-out-at
bounds-out-at c = omega (arith, length-minus c.args.z (is-minus c))

pub put_decimal-requires : goal.put_decimal-requires
put_decimal-requires c = simp length-set (omega (arith, length-minus c.args.z (is-minus (goal.at.put_decimal-requires c).Then-z-lt0), ap (λ (m : ℕ). length (decimal m)) (c.magnitude.ensures ∙ ap nat_abs (to_z-of_z c.ranges.z))))

pub shape_of-out-then-z-lt0 : goal.shape_of-out-then-z-lt0
shape_of-out-then-z-lt0 c = c.put_decimal.auto.out ∙ simp length-set

pub returns-then-z-lt0 : goal.returns-then-z-lt0
returns-then-z-lt0 c = put-minus _ _ _ _ _ _ (is-minus (goal.at.returns-then-z-lt0 c).Then-z-lt0) (c.magnitude.ensures ∙ ap nat_abs (to_z-of_z c.ranges.z)) c.put_decimal.ensures

pub put_decimal-requires-2 : goal.put_decimal-requires-2
put_decimal-requires-2 c = omega (arith, ap length (signed-plus c.args.z (is-plus (goal.at.put_decimal-requires-2 c).Else-z-lt0)), ap (λ (m : ℕ). length (decimal m)) (c.magnitude-2.ensures ∙ ap nat_abs (to_z-of_z c.ranges.z)))

pub returns : goal.returns
returns c = put-plus _ _ _ _ _ _ (is-plus (goal.at.returns c).Else-z-lt0) (c.magnitude-2.ensures ∙ ap nat_abs (to_z-of_z c.ranges.z)) c.put_decimal-2.ensures
