-- The count of a signed number. Assumes nothing.
use Rattle.std.specs.Prelude.{Err}
use Rattle.base.specs.declared.Refusal.TheVariants.{BadCode}
use mathlib.Core.Path.{◌≡◌, refl}
use mathlib.Core.Bool.{true, false}
use mathlib.Core.List.{List}
use Prim.Native.Nat.{ℕ, ◌<◌, ◌^◌}
use native.Mathlib.Omega.{arith}
use lib.IntN.{ℤ, pos, negsuc}
use lib.Signed.{lt_z}
use borrow.Author.Tests.{ltb-true}
use mir.Syntax.{w64}
use mir.Val.{SFits}
use Rattle.base.specs.Writing.{wrote, placed, Writes}
use Rattle.base.proofs.Tests.{never}
use Rattle.replies.specs.Functions.{integer_form}

-- below 0
pub negative : (v : ℤ) (d : List ℕ) → lt_z v (pos 0) ≡ true → Writes (integer_form v) d (Err BadCode) d
unfolding wrote placed
negative (pos n) d e = absurd (omega (arith, ltb-true n 0 e))
negative (negsuc n) d e = (refl, refl)

pub record Natural (v : ℤ) : Type 0 where
  pub at : ℕ
  pub same : v ≡ pos at
  pub small : at < 2 ^ 63

pub natural : (v : ℤ) → SFits w64 v → lt_z v (pos 0) ≡ false → Natural v
natural (pos n) f e = record { at = n; same = refl; small = f.sfits }
natural (negsuc n) f e = never refl e
