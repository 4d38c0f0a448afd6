-- The stretches of a window at whose instants a test holds, by going over the instants one by one. Executable; `stretches-list`
-- (proofs/StretchLaws.antt) ties it to Maximal.antt, which does not compute.
use Rattle.std.specs.Prelude.{ℕ, zero, suc, ◌-◌, Bool, List, [], ◌∷◌, ◌++◌, ℤ, eqb}
use Rattle.base.specs.Pick.{pick}
use Rattle.signed.specs.Instant.{ticks_of}

-- "by first instant and end": the first instant is in it, the end is not
pub record Stretch : Type 0 where
  pub first : ℕ
  pub end : ℕ

-- a stretch is open since an instant, or none is, which is 0: with the instant t in it
unfoldable pub opened : ℕ → ℕ → ℕ
opened since t = pick (eqb since 0) t since

-- and without t: it ends there
unfoldable pub closed : ℕ → ℕ → List Stretch
closed since t = pick (eqb since 0) [] (record { first = since; end = t } ∷ [])

-- of the n instants from t on
unfoldable pub stretches_from : (ℕ → Bool) → ℕ → ℕ → ℕ → List Stretch
stretches_from P since zero t = closed since t
stretches_from P since (suc n) t = pick (P t) (stretches_from P (opened since t) n (suc t)) (closed since t ++ stretches_from P 0 n (suc t))

-- "a window of instants (first in, last out ..)": it holds none where last is not after first
unfoldable pub stretches : (ℕ → Bool) → ℕ → ℕ → List Stretch
stretches P first last = stretches_from P 0 (last - first) first

-- a list of stretches as numbers: two each, in ticks since 1970
unfoldable pub numbers_of : List Stretch → List ℤ
numbers_of [] = []
numbers_of (x ∷ xs) = ticks_of x.first ∷ ticks_of x.end ∷ numbers_of xs
