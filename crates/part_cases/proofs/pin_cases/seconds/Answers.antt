use native.Mathlib.Omega.{arith}
use mathlib.Core.Path.{◌≡◌, refl, ap, ◌∙◌}
use Prim.Native.Nat.{ℕ, zero, suc, ◌^◌, ◌<◌}
use lib.IntN.{pos, nat_abs, ◌-ℤ◌}
use mir.Syntax.{w32}
use mir.Val.{SFits}
use mir.Facts.{to_z_pos, to_z-of_z}
use borrow.Author.Tests.{lt-ltb}
use Rattle.part_cases.proofs.pin_cases.seconds.Goals as goal

minus : (n : ℕ) → n < 2 ^ 31 → SFits w32 (pos 0 -ℤ pos n) × (nat_abs (pos 0 -ℤ pos n) ≡ n)
minus zero h = (record { sfits = omega arith }, refl)
minus (suc n) h = rw (lt-ltb 0 (suc n) (omega arith)) (record { sfits = omega arith }, omega arith)

pub overflow_sub-result : goal.overflow_sub-result
overflow_sub-result c = rw (to_z_pos w32 {n = c.args.n} (omega arith)) (minus c.args.n (omega arith)).0

pub returns-then-below : goal.returns-then-below
returns-then-below c = let m = minus c.args.n (omega arith) in
    rw (to_z_pos w32 {n = c.args.n} (omega arith)) (ap nat_abs (to_z-of_z m.0) ∙ m.1)

pub returns : goal.returns
returns c = ap nat_abs (to_z_pos w32 {n = c.args.n} (omega arith))
