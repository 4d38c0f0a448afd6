-- Signed numbers of four and eight bytes. Assumes nothing.
use mathlib.Core.Path.{◌≡◌, refl, sym, ap, ◌∙◌}
use Prim.Native.Nat.{ℕ, zero, suc, ◌-◌, ◌^◌, ◌≤◌, ◌<◌}
use native.Mathlib.Omega.{arith}
use lib.IntN.{pos, negsuc, ◌-ℤ◌}
use mir.Syntax.{w32, w64}
use mir.Val.{to_z, of_z, SFits}
use mir.Facts.{to_z-of_z, to_z_pos}
use borrow.Author.Tests.{le-ltb}
use Rattle.signed.proofs.IntegerLaws.{less-fits, less-is}
use Rattle.signed.proofs.OrderLaws.{sub_low}

-- the upper half of the bits
minus_one : (h : ℕ) → negsuc 0 -ℤ pos h ≡ negsuc h
minus_one zero = refl
minus_one (suc h) = ap negsuc (omega arith)

module _ (v : ℕ) (f : v < 2 ^ 64) (h : 2 ^ 63 ≤ v) where
  rest : to_z w64 (18446744073709551615 - v) ≡ pos (18446744073709551615 - v)
  rest = to_z_pos w64 {n = 18446744073709551615 - v} (omega arith)

  pub late-fits : SFits w64 (negsuc 0 -ℤ to_z w64 (18446744073709551615 - v))
  late-fits = rw (rest, minus_one (18446744073709551615 - v)) (record { sfits = omega arith })

  pub late_is : to_z w64 (of_z w64 (negsuc 0 -ℤ to_z w64 (18446744073709551615 - v))) ≡ to_z w64 v
  late_is =
      to_z-of_z late-fits
      ∙ rw (rest, minus_one (18446744073709551615 - v), le-ltb v (2 ^ 63) h) (ap negsuc (omega arith))

module _ (v : ℕ) (f : v < 4294967296) where
  pub small_is : v < 2147483648 → to_z w64 v ≡ to_z w32 v
  small_is h = to_z_pos w64 {n = v} (omega arith) ∙ sym (to_z_pos w32 {n = v} h)

  pub less-small : SFits w64 (to_z w64 v -ℤ pos 4294967296)
  less-small = rw (less-is v 4294967296 (omega arith) (omega arith) (omega arith)) (less-fits v 4294967296 (omega arith) (omega arith))

  pub large_is : 2147483648 ≤ v → to_z w64 (of_z w64 (to_z w64 v -ℤ pos 4294967296)) ≡ to_z w32 v
  large_is h =
      to_z-of_z less-small
      ∙ less-is v 4294967296 (omega arith) (omega arith) (omega arith)
      ∙ sub_low v 4294967296 f
      ∙ rw (le-ltb v (2 ^ 31) h) refl
