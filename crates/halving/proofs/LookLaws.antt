-- Looks between bounds, and how many are due. Assumes nothing.
use Rattle.std.specs.Prelude.{Ok}
use mathlib.Core.Path.{◌≡◌, refl, sym, ap, ◌∙◌, subst}
use mathlib.Core.Bool.{true, false}
use mathlib.Core.List.{List}
use Prim.Native.Nat.{ℕ, ◌+◌, ◌-◌, ◌*◌, ◌/◌, ◌≤◌, ◌<◌}
use native.Mathlib.Nat.{add-zero}
use native.Mathlib.Omega.{arith}
use lib.IntN.{ℤ, pos}
use lib.Signed.{le_z}
use lib.ListN.{get_or}
use Rattle.base.proofs.Tests.{by_order}
use Rattle.halving.specs.Halving.{find_start}
use Rattle.halving.specs.Looks.{Standing, StandsAt, Looks, Near, Due}
use Rattle.halving.proofs.StepLaws.{standing-kept, standing-before, standing-done}

-- the entry half the entries in
pub middle : (low high : ℕ) → low < high → (low + high) / 2 ≡ low + (high - low) / 2
middle low high h = omega arith

-- what comes before it
lower : (low high : ℕ) → low < high → (low + high) / 2 - low ≡ (high - low) / 2
lower low high h = omega arith

-- what it begins
upper : (low high : ℕ) → low < high → high - (low + high) / 2 ≡ high - low - (high - low) / 2
upper low high h = omega arith

module _ (xs : List ℤ) (z : ℤ) (low high k : ℕ) (g : Standing xs z low (high - low) k) where
  ordered : low < high
  ordered = omega (arith, g.some)

  module _ (h : 1 < high - low) where
    pub stands-kept : le_z (get_or xs ((low + high) / 2) (pos 0)) z ≡ true → Standing xs z ((low + high) / 2) (high - (low + high) / 2) (k + 1)
    stands-kept e =
        rw (upper low high ordered, middle low high ordered)
        (standing-kept xs z low (high - low) k g h (rw (middle low high ordered) at e))

    pub stands-before : le_z (get_or xs ((low + high) / 2) (pos 0)) z ≡ false → Standing xs z low ((low + high) / 2 - low) (k + 1)
    stands-before e =
        rw (lower low high ordered)
        (standing-before xs z low (high - low) k g h (rw (middle low high ordered) at e))

    pub looks-kept : le_z (get_or xs ((low + high) / 2) (pos 0)) z ≡ true
        → Looks xs z (record { low = low; high = high; probes = k }) (record { low = (low + high) / 2; high = high; probes = k + 1 })
    looks-kept e = record { stands = stands-kept e; least = omega arith; most = omega arith }

    pub looks-before : le_z (get_or xs ((low + high) / 2) (pos 0)) z ≡ false
        → Looks xs z (record { low = low; high = high; probes = k }) (record { low = low; high = (low + high) / 2; probes = k + 1 })
    looks-before e = record { stands = stands-before e; least = omega arith; most = omega arith }

  -- two entries at most are left
  module _ (l : high - low ≤ 2) where
    one_left : high - low ≡ 1 → Ok (low, k) ≡ find_start xs z
    one_left e = standing-done xs z low (high - low) k g (omega arith)

    pub last-kept : le_z (get_or xs ((low + high) / 2) (pos 0)) z ≡ true → Ok ((low + high) / 2, k + ((low + high) / 2 - low)) ≡ find_start xs z
    last-kept e =
        by_order 1 (high - low)
        (λ (h : 1 < high - low).
        let q : (low + high) / 2 - low ≡ 1 = omega arith in
        rw q (standing-done xs z ((low + high) / 2) (high - (low + high) / 2) (k + 1) (stands-kept h e) (omega arith)))
        (λ (h : high - low ≤ 1).
        let q : (low + high) / 2 ≡ low = omega (arith, g.some) in
        let d : low - low ≡ 0 = omega arith in
        rw (q, d, add-zero k) (standing-done xs z low (high - low) k g h))

    pub last-before : le_z (get_or xs ((low + high) / 2) (pos 0)) z ≡ false → Ok (low, k + ((low + high) / 2 - low)) ≡ find_start xs z
    last-before e =
        by_order 1 (high - low)
        (λ (h : 1 < high - low).
        let q : (low + high) / 2 - low ≡ 1 = omega arith in
        let s = stands-before h e in
        rw q (standing-done xs z low ((low + high) / 2 - low) (k + 1) s (omega arith)))
        (λ (h : high - low ≤ 1).
        let q : (low + high) / 2 - low ≡ 0 = omega (arith, g.some) in
        rw (q, add-zero k) (standing-done xs z low (high - low) k g h))

-- HOW MANY LOOKS
pub near_next : (m n j : ℕ) → j ≤ 1 → Near m n → Near (m / 2) ((n + j) / 2)
near_next m n j h g = record { from = omega (arith, g.from); to = omega (arith, g.to) }

module _ (n half left : ℕ) (g : Due n (2 * half) left) where
  -- none is due
  pub due-fewer : n < 2 * half → Due n half left
  due-fewer h =
      let w : Near n left = g.fewer h in
      record { fewer = λ l. w; from = λ l. omega (arith, w.from); to = omega (arith, w.to) }

  -- one is made
  pub due-next : (left' : ℕ) → 2 * half ≤ n → left / 2 ≤ left' → left' ≤ (left + 1) / 2 → Due n half left'
  due-next left' h a b =
      record { fewer = λ l. absurd (omega arith); from = λ l. omega (arith, g.from h); to = omega (arith, g.to) }

-- before the first
pub due-near : (n least left : ℕ) → n < 2 * least → Near n left → Due n least left
due-near n least left h g =
    record { fewer = λ l. g; from = λ l. omega (arith, g.from); to = omega (arith, g.to) }

-- the bounds of the n entries from low on
pub stands_from : (xs : List ℤ) (z : ℤ) (low n k m : ℕ) → Standing xs z low n k → Near m n → m ≤ 8191
    → StandsAt xs z (record { low = low; high = low + n; probes = k }) × (Near m (low + n - low) × (m ≤ 8191))
stands_from xs z low n k m g w h = let e : low + n - low ≡ n = omega arith in rw e ((g, (w, h)))
