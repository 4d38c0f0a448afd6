-- The lookup in the code, a law for each way out of it. Assumes nothing.
use Rattle.std.specs.declared.option.Option.{Option as Maybe}
use Rattle.std.specs.declared.option.Option.TheVariants.{None, Some}
use mathlib.Core.Path.{◌≡◌, refl, ◌∙◌}
use mathlib.Core.List.{List, []}
use mathlib.Core.Option.{Option, none, some}
use Prim.Native.Nat.{ℕ, zero, suc, ◌-◌, ◌<◌}
use native.Mathlib.Omega.{arith}
use lib.ListN.{length, get_or}
use Rattle.alias_lookup.specs.View.{flagged}
use Rattle.aliases.specs.Dictionary.{Dictionary, target_of}
use Rattle.alias_lookup.specs.Lookup.{here, unknown, lookup, by_test}
use Rattle.alias_lookup.specs.View.{Points, Resolves}
use Rattle.alias_lookup.specs.declared.Target.{Target}
use Rattle.alias_lookup.specs.declared.Target.TheVariants.{Zone, Unknown, Deep}

module _ (ts : List (List ℕ)) (o : Option (List ℕ)) (r : Maybe ℕ) (p : Points ts o r) where
  pub point_at : (k : ℕ) → r ≡ Some k → (some (get_or ts k []) ≡ o) × (k < length ts)
  point_at k e = (rw e at p.means, rw e at p.within)

  pub point-none : r ≡ None → none ≡ o
  point-none e = rw e at p.means

module _ (ts : List (List ℕ)) (fl : List ℕ) (es : Dictionary) (n : ℕ) (x : List ℕ) (z : Maybe ℕ) (zone : Points ts (by_test (flagged ts fl) x) z) where
  pub resolves-zone : (k : ℕ) → z ≡ Some k → Resolves ts fl es n x (Zone k)
  unfolding lookup
  resolves-zone k e =
      let w = point_at ts _ z zone k e in
      record { means = go n; within = w.1 }
    where
      go : (m : ℕ) → here (get_or ts k []) ≡ lookup (by_test (flagged ts fl)) es m x
      go zero = rw (← (point_at ts _ z zone k e).0)
      go (suc m) = rw (← (point_at ts _ z zone k e).0)

  module _ (no-zone : z ≡ None) (q : Maybe ℕ) (target : Points ts (target_of es x) q) where
    pub resolves-unknown : q ≡ None → Resolves ts fl es n x Unknown
    unfolding lookup
    resolves-unknown e = record { means = go n; within = tt }
      where
        go : (m : ℕ) → unknown ≡ lookup (by_test (flagged ts fl)) es m x
        go zero = rw (← (point-none ts _ z zone no-zone), ← (point-none ts _ q target e))
        go (suc m) = rw (← (point-none ts _ z zone no-zone), ← (point-none ts _ q target e))

    module _ (k : ℕ) (e : q ≡ Some k) where
      pub resolves-deep : n ≡ 0 → Resolves ts fl es n x Deep
      unfolding lookup
      resolves-deep s = record { means = rw (s, ← (point-none ts _ z zone no-zone), ← (point_at ts _ q target k e).0); within = tt }

      pub resolves-on : (n ≡ 0 → ⊥) → (t : List ℕ) → t ≡ get_or ts k [] → (r : Target) → Resolves ts fl es (n - 1) t r → Resolves ts fl es n x r
      unfolding lookup
      resolves-on s t i r h = record { means = h.means ∙ go n s; within = h.within }
        where
          go : (m : ℕ) → (m ≡ 0 → ⊥) → lookup (by_test (flagged ts fl)) es (m - 1) t ≡ lookup (by_test (flagged ts fl)) es m x
          go zero s = absurd (s refl)
          go (suc m) s =
              let o : suc m - 1 ≡ m = omega arith in
              rw (o, i, ← (point-none ts _ z zone no-zone), ← (point_at ts _ q target k e).0)
