-- The order of ticks is that of their moments, as facts. Assumes nothing.
use mathlib.Core.Path.{sym, subst}
use Prim.Native.Nat.{ℕ, ◌≤◌, ◌<◌}
use lib.Dec.{T, leb→le, le→leb, ltb→lt, lt→ltb}
use lib.Signed.{◌≤ℤ◌, ◌<ℤ◌}
use Rattle.base.specs.Moment.{Finite}
use Rattle.signed.specs.Instant.{ticks_of}
use Rattle.signed.proofs.TickLaws.{ticks-le, ticks-lt}

-- a moment, or any other number, against an instant
module _ (m t : ℕ) (f : Finite t) where
  pub to_le : m ≤ t → ticks_of m ≤ℤ ticks_of t
  to_le h = record { le = subst T (sym (ticks-le m t f)) (le→leb m t h) }

  pub of_le : ticks_of m ≤ℤ ticks_of t → m ≤ t
  of_le h = leb→le m t (subst T (ticks-le m t f) h.le)

  pub to-lt : t < m → ticks_of t <ℤ ticks_of m
  to-lt h = record { lt = subst T (sym (ticks-lt m t f)) (lt→ltb t m h) }

  pub of_lt : ticks_of t <ℤ ticks_of m → t < m
  of_lt h = ltb→lt t m (subst T (ticks-lt m t f) h.lt)
