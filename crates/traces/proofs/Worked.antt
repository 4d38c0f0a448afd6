-- Traces worked through: whether their parts lie in them. Assumes nothing.
use mathlib.Core.Path.{◌≡◌, refl}
use mathlib.Core.Bool.{Bool, true, false}
use mathlib.Core.List.{List, [], ◌∷◌, ◌++◌}
use Prim.Native.Nat.{ℕ}
use lib.ListN.{replicate}
use Rattle.counts.specs.Fixed.{fixed_from, fixed_bytes}
use Rattle.traces.specs.Trace.{within, names_within, trace_ok}

-- a header, and a record with the instant 0 and the offset 0 shown
unfoldable pub header : ℕ → ℕ → ℕ → ℕ → List ℕ
header n at size names = fixed_bytes 4 n ++ fixed_bytes 4 at ++ fixed_bytes 4 size ++ fixed_bytes 4 names

unfoldable pub record_of : ℕ → ℕ → List ℕ
record_of start len = replicate 8 0 ++ fixed_bytes 4 start ++ fixed_bytes 4 len ++ replicate 4 0

pub record Case : Type 0 where
  pub trace : List ℕ
  pub ok : Bool

pub cases : List Case
cases =
    record { trace = []; ok = false }
    ∷ record { trace = header 0 16 0 16; ok = true }
    ∷ record { trace = header 0 17 0 16; ok = false }
    ∷ record { trace = header 0 16 0 17; ok = false }
    ∷ record { trace = header 3435973837 16 0 16; ok = false }
    ∷ record { trace = header 1 16 1 36 ++ record_of 1 0 ++ (0 ∷ []); ok = true }
    ∷ record { trace = header 1 16 1 36 ++ record_of 2 0 ++ (0 ∷ []); ok = false }
    ∷ record { trace = header 1 16 1 36 ++ record_of 0 2 ++ (0 ∷ []); ok = false }
    ∷ record { trace = header 1 16 1 36 ++ record_of 4294967295 1 ++ (0 ∷ []); ok = false }
    ∷ []

unfoldable pub given : List Case → List Bool
given [] = []
given (x ∷ xs) = trace_ok x.trace ∷ given xs

unfoldable pub expected : List Case → List Bool
expected [] = []
expected (x ∷ xs) = x.ok ∷ expected xs

pub worked : given cases ≡ expected cases
unfolding fixed_from fixed_bytes within names_within trace_ok header record_of cases given expected
worked = refl
