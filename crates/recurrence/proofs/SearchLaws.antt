-- What the search over a few years finds is what stands over all years. Assumes nothing.
use mathlib.Core.Path.{◌≡◌, refl, ap, subst}
use mathlib.Core.Bool.{Bool, true, false}
use Prim.Native.Nat.{ℕ, zero, suc, ◌+◌, ◌-◌, ◌*◌, ◌/◌, ◌≤◌, ◌<◌}
use native.Mathlib.Omega.{arith}
use native.Mathlib.Nat.{add-zero, add-suc}
use native.Mathlib.Numerals.{add-one}
use lib.Dec.{ltb}
use borrow.Author.Tests.{ltb-true, ltb-false, lt-ltb, le-ltb}
use Rattle.base.specs.Pick.{pick}
use Rattle.base.specs.Moment.{Finite}
use Rattle.base.proofs.Tests.{by_order}
use Rattle.calendar.specs.Calendar.{year_start, InYear, year_of}
use Rattle.calendar.proofs.Years.{year-of, year-next, year-low, year-high}
use Rattle.rules.specs.declared.Rule.{Rule}
use Rattle.recurrence.specs.declared.Occurrences.{Occurrences}
use Rattle.rules.specs.Rules.{RuleOk}
use Rattle.occurrences.specs.Rules.{occurrence}
use Rattle.recurrence.specs.Search.{cycle, IsNext, IsLast, search_from, year_before, next_after, last_at, around}
use Rattle.occurrences.proofs.RuleLaws.{occurrence-low, occurrence-high, occurrence-rises}
use Rattle.recurrence.proofs.CycleLaws.{occurrence-400}
pub use Rattle.recurrence.specs.Facts.{Yearly}

pub occurrence-yearly : (r : Rule) (offset : ℕ) → RuleOk r → offset ≤ 172800000 → Yearly (occurrence r offset)
occurrence-yearly r offset ok h =
    record {
      rises = occurrence-rises r offset h;
      low = λ k. occurrence-low r offset k h;
      high = λ k. occurrence-high r offset k ok;
      repeats = occurrence-400 r offset h;
    }

-- t stands between the occurrences of two years
pub record Between (f : ℕ → ℕ) (t y : ℕ) : Type 0 where
  pub from : f y ≤ t
  pub to : t < f (y + 1)

module _ (f : ℕ → ℕ) (v : Yearly f) where
  rise-by : (y d : ℕ) → f y ≤ f (y + d)
  rise-by y zero = rw (add-zero y) (omega arith)
  rise-by y (suc d) = rw (add-suc, ← add-one (y + d)) (omega (arith, rise-by y d, v.rises (y + d)))

  rise : (a b : ℕ) → a ≤ b → f a ≤ f b
  rise a b l =
      let e : a + (b - a) ≡ b = omega arith in
      subst (λ (x : ℕ). f a ≤ f x) e (rise-by a (b - a))

  -- which of two years comes first, from their occurrences
  year-lt : (a b : ℕ) → f a < f b → a < b
  year-lt a b l = by_order a b (λ h. h) (λ h. omega (arith, rise b a h))

  -- the same year in a count that starts 400 c years earlier
  shift : (c y : ℕ) → 1 ≤ y → f (y + 400 * c) ≡ f y + c * cycle
  shift zero y l = rw (add-zero y) (omega arith)
  shift (suc c) y l =
      let e : y + 400 * suc c ≡ y + 400 * c + 400 = omega arith in
      omega (arith, ap f e, v.repeats (y + 400 * c) (omega arith), shift c y l)

  -- any year of that count is up to its year 1, or is one of ours
  any-year : (c y : ℕ) {G : Type 0} → (f y ≤ f 1 + c * cycle → G) → ((w : ℕ) → f y ≡ f w + c * cycle → G) → G
  any-year c y {G} early ours = by_order (1 + 400 * c) y later sooner
    where
      later : 1 + 400 * c < y → G
      later l =
          let e : y - 400 * c + 400 * c ≡ y = omega arith in
          ours (y - 400 * c) (subst (λ (x : ℕ). f x ≡ f (y - 400 * c) + c * cycle) e (shift c (y - 400 * c) (omega arith)))

      sooner : y ≤ 1 + 400 * c → G
      sooner l = early (omega (arith, rise y (1 + 400 * c) l, shift c 1 (omega arith)))

  -- year 1 of our count is long before the instants
  first-year : f 1 < cycle
  first-year = omega (arith, v.high 1, year-high 2)

  module _ (t y : ℕ) (g : cycle ≤ t) (b : Between f t y) where
    next-is : IsNext f t (f (y + 1))
    next-is = record { year = y + 1; occurs = refl; after = b.to; least = least }
      where
        least : (c z : ℕ) → t + c * cycle < f z → f (y + 1) + c * cycle ≤ f z
        least c z l =
            any-year c z (λ e. omega (arith, first-year))
            (λ w e. omega (arith, rise (y + 1) w (omega (arith, year-lt y w (omega arith)))))

    last-is : IsLast f t (f y)
    last-is = record { year = y; occurs = refl; before = b.from; greatest = greatest }
      where
        ours : (w : ℕ) → f w ≤ t → f w ≤ f y
        ours w l = rise w y (omega (arith, year-lt w (y + 1) (omega arith)))

        greatest : (c z : ℕ) → f z ≤ t + c * cycle → f z ≤ f y + c * cycle
        greatest c z l = any-year c z (λ e. omega (arith, ours 1 (omega (arith, first-year)))) (λ w e. omega (arith, ours w (omega arith)))

  search-between : (t n j z : ℕ) → f j ≤ t → t < f z → z ≤ j + n + 1 → Between f t (search_from f t n j)
  unfolding search_from
  search-between t zero j z l g e = record { from = l; to = omega (arith, rise z (j + 1) (omega arith)) }
  search-between t (suc n) j z l g e = go (ltb t (f (j + 1))) refl (search-between t n (j + 1) z)
    where
      go : (b : Bool) → ltb t (f (j + 1)) ≡ b → (f (j + 1) ≤ t → t < f z → z ≤ j + 1 + n + 1 → Between f t (search_from f t n (j + 1))) →
          Between f t (pick b j (search_from f t n (j + 1)))
      go true p ih = record { from = l; to = ltb-true _ _ p }
      go false p ih = ih (ltb-false _ _ p) g (omega arith)

  pub year-before : (t : ℕ) → Finite t → Between f t (year_before f t)
  unfolding year_before
  year-before t a = go (year_of (t / 864000000000)) (year-of (t / 864000000000))
    where
      go : (k : ℕ) → InYear (t / 864000000000) k → Between f t (search_from f t 3 (k - 2))
      go k y =
          let l : 2 ≤ k = omega (arith, y.to, year-high (k + 1)) in
          let e : k - 2 + 1 + 1 ≡ k = omega arith in
          search-between t 3 (k - 2) (k + 1 + 1)
          (omega (arith, v.high (k - 2), year-next (k - 2 + 1), ap year_start e))
          (omega (arith, v.low (k + 1 + 1), year-next (k + 1), y.to))
          (omega arith)

  -- the executable definitions have the properties
  pub next-after : (t : ℕ) → Finite t → IsNext f t (next_after f t)
  unfolding next_after
  next-after t a = next-is t (year_before f t) (omega arith) (year-before t a)

  pub last-at : (t : ℕ) → Finite t → IsLast f t (last_at f t)
  unfolding last_at
  last-at t a = last-is t (year_before f t) (omega arith) (year-before t a)

-- there is one such occurrence
pub next_one : (f : ℕ → ℕ) (t n m : ℕ) → IsNext f t n → IsNext f t m → n ≡ m
next_one f t n m a b =
    omega (arith, a.occurs, b.occurs, a.least 0 b.year (omega (arith, b.occurs, b.after)), b.least 0 a.year (omega (arith, a.occurs, a.after)))

pub last_one : (f : ℕ → ℕ) (t n m : ℕ) → IsLast f t n → IsLast f t m → n ≡ m
last_one f t n m a b =
    omega (arith, a.occurs, b.occurs, a.greatest 0 b.year (omega (arith, b.occurs, b.before)), b.greatest 0 a.year (omega (arith, a.occurs, a.before)))

-- no occurrence lies between the one before an instant and the one after it
module _ (f : ℕ → ℕ) (s t n : ℕ) where
  pub next-later : IsNext f s n → s ≤ t → t < n → IsNext f t n
  next-later a h l = record { year = a.year; occurs = a.occurs; after = l; least = λ c y g. a.least c y (omega arith) }

  pub next-earlier : (m : ℕ) → IsNext f t n → IsLast f t m → m ≤ s → s ≤ t → IsNext f s n
  next-earlier m a b h l =
      record {
        year = a.year;
        occurs = a.occurs;
        after = omega (arith, a.after);
        least = λ c y g. by_order (t + c * cycle) (f y) (λ k. a.least c y k) (λ k. omega (arith, b.greatest c y k));
      }

  pub last-before : (m : ℕ) → IsNext f s n → IsLast f t m → t < n → m ≤ s
  last-before m a b l = by_order s m (λ k. omega (arith, b.before, b.occurs, a.least 0 b.year (omega (arith, b.occurs)))) (λ k. k)

-- the year of an instant
pub record YearRoom (k : ℕ) : Type 0 where
  pub low : 3 ≤ k
  pub high : k < 18000

pub year-room : (t : ℕ) → Finite t → YearRoom (year_of (t / 864000000000))
year-room t a = go (year_of (t / 864000000000)) (year-of (t / 864000000000))
  where
    go : (k : ℕ) → InYear (t / 864000000000) k → YearRoom k
    go k y = record { low = omega (arith, year-high (k + 1)); high = omega (arith, year-low k) }

-- how the code's tests go through the search
module _ (f : ℕ → ℕ) (t j : ℕ) where
  pub found-0 : t < f (j + 1) → search_from f t 3 j ≡ j
  unfolding search_from
  found-0 h = simp (lt-ltb _ _ h)

  pub found-1 : f (j + 1) ≤ t → t < f (j + 1 + 1) → search_from f t 3 j ≡ j + 1
  unfolding search_from
  found-1 g h = simp (le-ltb _ _ g, lt-ltb _ _ h)

  pub found-2 : f (j + 1) ≤ t → f (j + 1 + 1) ≤ t → t < f (j + 1 + 1 + 1) → search_from f t 3 j ≡ j + 1 + 1
  unfolding search_from
  found-2 g g' h = simp (le-ltb _ _ g, le-ltb _ _ g', lt-ltb _ _ h)

  pub found-3 : f (j + 1) ≤ t → f (j + 1 + 1) ≤ t → f (j + 1 + 1 + 1) ≤ t → search_from f t 3 j ≡ j + 1 + 1 + 1
  unfolding search_from
  found-3 g g' h = simp (le-ltb _ _ g, le-ltb _ _ g', le-ltb _ _ h)

-- what was found, as the two occurrences
pub found : (f : ℕ → ℕ) (t k y a b : ℕ) → k ≡ year_of (t / 864000000000) → search_from f t 3 (k - 2) ≡ y → a ≡ f y → b ≡ f (y + 1) →
    ◌≡◌ {A = Occurrences} (record { last = a; next = b }) (around f t)
unfolding last_at next_after year_before
found f t k y a b e s p q =
    let z : search_from f t 3 (year_of (t / 864000000000) - 2) ≡ y = rw (← e) s in
    rw (z, p, q)
