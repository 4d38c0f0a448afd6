-- Lists of bytes. Assumes nothing.
use mathlib.Core.List.{List, [], ◌∷◌}
use Prim.Native.Nat.{ℕ, zero, suc, ◌+◌, ◌<◌}
use native.Mathlib.Omega.{arith}
use lib.ListN.{drop}
use lib.Seq.{get_or-drop}
use Rattle.base.specs.Bytes.{Bytes}

pub no-bytes : Bytes []
no-bytes i = omega arith

pub cons-bytes : (b : ℕ) (s : List ℕ) → b < 256 → Bytes s → Bytes (b ∷ s)
cons-bytes b s h f zero = h
cons-bytes b s h f (suc i) = f i

pub tail-bytes : (b : ℕ) (s : List ℕ) → Bytes (b ∷ s) → Bytes s
tail-bytes b s h i = h (suc i)

pub drop-bytes : (n : ℕ) (s : List ℕ) → Bytes s → Bytes (drop n s)
drop-bytes n s h i = rw (get_or-drop n s i 0) (h (n + i))
