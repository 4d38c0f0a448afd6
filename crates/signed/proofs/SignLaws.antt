-- A number and its magnitude. Assumes nothing.
use mathlib.Core.Path.{◌≡◌, refl, ap}
use mathlib.Core.Bool.{true, false}
use Prim.Native.Nat.{ℕ, suc, ◌+◌, ◌^◌, ◌<◌}
use native.Mathlib.Omega.{arith}
use lib.Dec.{T}
use lib.IntN.{ℤ, pos, negsuc, ◌-ℤ◌, nat_abs}
use lib.Signed.{lt_z, non_neg}
use mir.Syntax.{w64}
use mir.Val.{to_z, of_z, SFits, Fits}
use mir.Facts.{to_z-of_z, to_z_pos}
use borrow.Author.Tests.{le-ltb, ltb-true}
use Rattle.base.proofs.Tests.{never}

-- a negative number, as the code takes its sign off
pub record Negative (z : ℤ) : Type 0 where
  pub less : ℕ
  pub is : negsuc 0 -ℤ z ≡ pos less
  pub size : less + 1 ≡ nat_abs z
  pub small : less < 2 ^ 63

pub negative : (z : ℤ) → SFits w64 z → lt_z z (pos 0) ≡ true → Negative z
negative (pos n) h e = absurd (omega (arith, ltb-true n 0 e))
negative (negsuc n) h e = record { less = n; is = rw (le-ltb (suc n) 1 (omega arith)) (ap pos (omega arith)); size = omega arith; small = h.sfits }

-- what the machine holds after the difference
pub less-of : (z : ℤ) → SFits w64 z → (b : Negative z) → to_z w64 (of_z w64 (negsuc 0 -ℤ to_z w64 (of_z w64 z))) ≡ pos b.less
less-of z h b = rw (to_z-of_z h, b.is) (to_z_pos w64 b.small)

pub not-negative : (z : ℤ) → SFits w64 z → lt_z z (pos 0) ≡ false → (T (non_neg z)) × (Fits w64 (nat_abs z))
not-negative (pos n) h e = (tt, record { fits = omega (arith, h.sfits) })
not-negative (negsuc n) h e = never refl e
