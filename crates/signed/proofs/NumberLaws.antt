-- From a signed reading back to the unsigned one. Assumes nothing.
use Rattle.base.proofs.PairLaws.{ok_parts}
use Rattle.std.specs.Prelude.{Err, Ok}
use Rattle.base.specs.Coded.{Coded}
use mathlib.Core.Path.{◌≡◌}
use Prim.Native.Nat.{ℕ}
use lib.IntN.{ℤ}
use Rattle.signed.specs.Number.{number}
use Rattle.base.proofs.Tests.{clash}

-- the signed value z in n bytes is that of some value which r gives
pub record Of (f : ℕ → ℤ) (r : Coded ℕ) (z : ℤ) (n : ℕ) : Type 0 where
  pub value : ℕ
  pub is : z ≡ f value
  pub read : Ok (value, n) ≡ r

pub number-of : (f : ℕ → ℤ) (r : Coded ℕ) {z : ℤ} {n : ℕ} → Ok (z, n) ≡ number f r → Of f r z n
number-of f (Ok (v, m)) {z} {n} e = record { value = v; is = cc ((ok_parts e).0, (ok_parts e).1); read = cc ((ok_parts e).0, (ok_parts e).1) }
number-of f (Err k) {z} {n} e = clash cc
