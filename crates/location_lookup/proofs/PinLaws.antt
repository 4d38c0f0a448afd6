-- Seconds in range as the pin takes them. Assumes nothing.
use mathlib.Core.Path.{◌≡◌, ◌∙◌}
use Prim.Native.Nat.{ℕ, ◌≤◌}
use native.Mathlib.Omega.{arith}
use lib.IntN.{ℤ}
use mir.Syntax.{w32, w64}
use mir.Val.{SFits, to_z, of_z}
use mir.Facts.{to_z-of_z}
use Rattle.signed.specs.Zigzag.{unzigzag_of}
use Rattle.signed.proofs.IntegerLaws.{unzigzag-fits}
use Rattle.pins.specs.Degrees.{pin_of}
use Rattle.pins.specs.declared.Pin.{Pin}

module _ (u : ℕ) (h : u ≤ 1296000) where
  narrow : SFits w32 (unzigzag_of u)
  narrow = unzigzag-fits u (omega arith)

  wide : SFits w64 (unzigzag_of u)
  wide = let l = narrow.sfits in record { sfits = omega arith }

  pub seconds-fit : (z : ℤ) → z ≡ unzigzag_of u → SFits w32 (to_z w64 (of_z w64 z))
  seconds-fit z e = rw (e, to_z-of_z wide) narrow

  pub through : (z : ℤ) → z ≡ unzigzag_of u → to_z w32 (of_z w32 (to_z w64 (of_z w64 z))) ≡ unzigzag_of u
  through z e = rw (e, to_z-of_z wide) (to_z-of_z narrow)

pub pin-through : (p : Pin) (a b x y : ℤ) → p ≡ pin_of a b → a ≡ x → b ≡ y → p ≡ pin_of x y
pin-through p a b x y h e f = h ∙ rw (e, f)
