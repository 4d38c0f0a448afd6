-- The check of a pool from its count on. Assumes nothing.
use Rattle.base.specs.declared.Refusal.TheVariants.{TooLarge}
use Rattle.base.specs.declared.Refusal.{Refusal}
use Rattle.std.specs.Prelude.{Err, Ok, Result}
use Rattle.base.specs.Coded.{Coded}
use mathlib.Core.Path.{◌≡◌, refl, sym, ◌∙◌, ap}
use mathlib.Core.List.{List}
use Prim.Native.Nat.{ℕ, ◌≤◌, ◌<◌}
use lib.Seq.{sets}
use borrow.Author.Tests.{lt-ltb, le-ltb}
use Rattle.counts.specs.Count.{read_count}
use Rattle.base.specs.Parsed.{bind, behind_code}
use Rattle.pool.specs.Pool.{counted, parse_pool, checked}
use Rattle.pool.specs.Index.{starts_in, starts_of, room_in, room_of}
use Rattle.pool.proofs.FillLaws.{Filled}

-- the result r and the index ix' of checking d with the index ix
abbrev pub Checks : List ℕ → List ℕ → Result ℕ Refusal → List ℕ → Type 0
Checks d ix r ix' = (r ≡ checked (parse_pool d)) × (ix' ≡ sets ix 0 (starts_of d))

-- the room that the index needs, by the count
module _ (d : List ℕ) (g : Coded ℕ) (h : g ≡ read_count d) where
  pub room-unread : (m : Refusal) → g ≡ Err m → 0 ≡ room_of d
  unfolding room_in
  room-unread m e = ap room_in (sym e ∙ h)

  pub room-large : (k a : ℕ) → g ≡ Ok (k, a) → 8192 < k → 0 ≡ room_of d
  unfolding room_in
  room-large k a e l = rw (lt-ltb 8192 k l) at (ap room_in (sym e ∙ h))

  pub room-counted : (k a : ℕ) → g ≡ Ok (k, a) → k ≤ 8192 → k ≡ room_of d
  unfolding room_in
  room-counted k a e l = rw (le-ltb 8192 k l) at (ap room_in (sym e ∙ h))

module _ (d ix : List ℕ) (g : Coded ℕ) (h : g ≡ read_count d) where
  pool-is : (x : Coded ℕ) (r : Result ℕ Refusal) (ix' : List ℕ) → g ≡ x → r ≡ checked (bind (behind_code d x) counted) → ix' ≡ sets ix 0 (starts_in d x) → Checks d ix r ix'
  pool-is x r ix' e p q = rw (sym h ∙ e) (p, q)

  pub pool-unread : (m : Refusal) → g ≡ Err m → Checks d ix (Err m) ix
  unfolding counted starts_in
  pool-unread m e = pool-is (Err m) (Err m) ix e refl refl

  module _ (k a : ℕ) (e : g ≡ Ok (k, a)) where
    pub pool-large : 8192 < k → Checks d ix (Err TooLarge) ix
    unfolding counted starts_in
    pool-large l = pool-is (Ok (k, a)) (Err TooLarge) ix e (rw (lt-ltb 8192 k l)) (rw (lt-ltb 8192 k l))

    pub pool-counted : (r : Result ℕ Refusal) (ix' : List ℕ) → k ≤ 8192 → Filled d a k ix r ix' → Checks d ix r ix'
    unfolding counted starts_in
    pool-counted r ix' l (p, q) = pool-is (Ok (k, a)) r ix' e (rw (le-ltb 8192 k l) p) (rw (le-ltb 8192 k l) q)
