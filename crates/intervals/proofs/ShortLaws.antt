-- An interval whose codes behind its start take a byte each. Assumes nothing.
use Rattle.base.specs.declared.Refusal.TheVariants.{BadInterval}
use mathlib.Core.Path.{◌≡◌, refl}
use mathlib.Core.Bool.{Bool, true, false}
use mathlib.Core.List.{List}
use Prim.Native.Nat.{ℕ, ◌+◌, ◌-◌, ◌≤◌, ◌<◌}
use native.Mathlib.Omega.{arith}
use lib.Dec.{ltb}
use lib.ListN.{drop, get_or}
use borrow.Author.Tests.{lt-ltb, le-ltb, ltb-true, ne_eqb}
use Rattle.base.specs.Pick.{pick}
use Rattle.base.specs.Parsed.{bad, parse}
use Rattle.base.specs.Moment.{end_of_time}
use Rattle.base.proofs.Tests.{both_left, both_right}
use Rattle.transitions.specs.Transition.{read_moment}
use Rattle.places.specs.Placed.{at, Stands}
use Rattle.places.specs.Name.{judge_name, parse_name}
use Rattle.places.specs.Short.{Short, short_at}
use Rattle.places.proofs.ShortLaws.{short-means}
use Rattle.places.proofs.PlaceLaws.{on, here, stands-if, name_in}
use Rattle.intervals.specs.Interval.{judge_standard, after_wall, after_name, parse_details, rises, after_start, parse_interval}
use Rattle.intervals.specs.Short.{short_interval, short_ok, short_start}
use Rattle.intervals.proofs.StandardLaws.{halves-low, halves_are}

module _ (s : List ℕ) (pool place n prev m : ℕ) where
  later : Short s place n prev m → rises prev m ≡ true
  later h = rw (ne_eqb prev end_of_time (λ e. omega (arith, h.previous.high)), lt-ltb prev m h.rises, lt-ltb m end_of_time (omega (arith, h.instant.high)))

  pub interval-at : Short s place n prev m → short_ok s pool (place + n) ≡ true
      → Stands s (parse_interval pool prev (drop place s)) (at (short_interval s (place + n) m) (place + (n + 3)))
  unfolding parse_interval after_start parse_details parse_name after_name after_wall judge_standard short_ok
  interval-at h o =
      let e : place + n + 3 ≡ place + (n + 3) = omega arith in
      let d = h.details in
      let l : get_or s (place + n) 0 < pool = ltb-true (get_or s (place + n) 0) pool (both_left (ltb (get_or s (place + n) 0) pool) _ o) in
      rw e at
      (on h.moment (after_start pool prev) m (place + n) _ refl
      (stands-if s (rises prev m) _ (bad BadInterval) _ (later h)
      (on (on d.name (judge_name pool) _ _ _ refl (name_in s pool _ _ l d.name.within)) (after_name m) _ _ _ refl
      (on d.wall (after_wall m _) _ _ _ refl
      (on d.savings (judge_standard m _ _) _ _ _ refl
      (stands-if s _ _ (bad BadInterval) _ (both_right (ltb (get_or s (place + n) 0) pool) _ o) (here s _ _ _ refl d.savings.within)))))))

  -- where it is not 0, such an interval stands at the place
  pub start-means : m ≡ short_start s pool place n prev → (m ≡ 0 → ⊥)
      → Stands s (parse_interval pool prev (drop place s)) (at (short_interval s (place + n) m) (place + (n + 3)))
  unfolding short_start
  start-means e z = go (short_ok s pool (place + n)) refl e
    where
      go : (t : Bool) → short_ok s pool (place + n) ≡ t → m ≡ pick t (short_at s place n prev) 0
          → Stands s (parse_interval pool prev (drop place s)) (at (short_interval s (place + n) m) (place + (n + 3)))
      go true q k = interval-at (short-means s place n prev m k z) q
      go false q k = absurd (z k)

  -- and the code of its start
  pub start-code : m ≡ short_start s pool place n prev → (m ≡ 0 → ⊥) → Stands s (parse (read_moment prev) (drop place s)) (at m (place + n))
  unfolding short_start
  start-code e z = go (short_ok s pool (place + n)) refl e
    where
      go : (t : Bool) → short_ok s pool (place + n) ≡ t → m ≡ pick t (short_at s place n prev) 0
          → Stands s (parse (read_moment prev) (drop place s)) (at m (place + n))
      go true q k = (short-means s place n prev m k z).moment
      go false q k = absurd (z k)

-- the test of its codes
module _ (s : List ℕ) (pool place : ℕ) where
  pub short-unnamed : pool ≤ get_or s place 0 → false ≡ short_ok s pool place
  unfolding short_ok
  short-unnamed l = rw (le-ltb (get_or s place 0) pool l)

  module _ (l : get_or s place 0 < pool) where
    pub short-low : get_or s (place + 1) 0 + 303 - get_or s (place + 2) 0 < 256 → false ≡ short_ok s pool place
    unfolding short_ok
    short-low h = rw (lt-ltb (get_or s place 0) pool l) (halves-low (get_or s (place + 1) 0) (get_or s (place + 2) 0) h)

    pub short-is : 256 ≤ get_or s (place + 1) 0 + 303 - get_or s (place + 2) 0 → ltb (get_or s (place + 1) 0 + 303 - get_or s (place + 2) 0) 351 ≡ short_ok s pool place
    unfolding short_ok
    short-is h = rw (lt-ltb (get_or s place 0) pool l) (halves_are (get_or s (place + 1) 0) (get_or s (place + 2) 0) h)
