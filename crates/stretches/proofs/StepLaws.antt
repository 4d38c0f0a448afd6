-- Many instants at once: where the test is the same from t to before e, the stretches go on from e. Assumes nothing.
use mathlib.Core.Path.{◌≡◌, refl, sym, ap, ◌∙◌}
use mathlib.Core.Bool.{Bool, true, false}
use mathlib.Core.List.{List, [], ◌∷◌, ◌++◌, append-nil}
use Prim.Native.Nat.{ℕ, zero, suc, ◌+◌, ◌-◌, ◌*◌, ◌≤◌, ◌<◌}
use native.Mathlib.Omega.{arith}
use lib.IntN.{ℤ}
use lib.ListN.{length, set, length-append}
use lib.Seq.{sets}
use lib.Dec.{eqb}
use borrow.Author.Tests.{eq-eqb, ne_eqb}
use Rattle.base.specs.Pick.{pick}
use Rattle.base.proofs.Tests.{by_order, pick-holds}
use Rattle.signed.specs.Instant.{ticks_of}
use Rattle.stretches.specs.Stretches.{Stretch, opened, closed, stretches_from, stretches, numbers_of}
use Rattle.stretches.specs.View.{ending, opening, Marked}
use Rattle.stretches.specs.declared.Marks.{Marks}

pub opened-none : (t : ℕ) → opened 0 t ≡ t
unfolding opened
opened-none t = refl

pub opened_some : (since t : ℕ) → (since ≡ 0 → ⊥) → opened since t ≡ since
unfolding opened
opened_some since t h = rw (ne_eqb since 0 h)

-- it begins at an instant
pub opened_one : (since t : ℕ) → 0 < t → opened since t ≡ 0 → ⊥
opened_one since t l = by_order 0 since (λ h e. omega (arith, opened_some since t (λ i. omega arith))) (λ h e. let z : since ≡ 0 = omega arith in omega (arith, opened-none t, ap (λ (o : ℕ). opened o t) z))

pub closed_none : (t : ℕ) → closed 0 t ≡ []
unfolding closed
closed_none t = refl

pub closed_some : (since t : ℕ) → (since ≡ 0 → ⊥) → closed since t ≡ record { first = since; end = t } ∷ []
unfolding closed
closed_some since t h = rw (ne_eqb since 0 h)

-- the stretch that is open holds one instant more
module _ (P : ℕ → Bool) (n e : ℕ) where
  through : (k since m t : ℕ) → m ≡ k + n → e ≡ suc (t + k) → 0 < t → ((u : ℕ) → t ≤ u → u < e → P u ≡ true)
      → stretches_from P since (suc m) t ≡ stretches_from P (opened since t) n e
  unfolding stretches_from
  through zero since m t a b l h =
      let c : m ≡ n = omega arith in
      let d : e ≡ suc t = omega arith in
      rw (h t (omega arith) (omega arith), c, d)
  through (suc k) since zero t a b l h = absurd (omega arith)
  through (suc k) since (suc m) t a b l h =
      rw (h t (omega arith) (omega arith))
      (through k (opened since t) m (suc t) (omega arith) (omega arith) (omega arith) (λ u i j. h u (omega arith) j)
      ∙ ap (λ (o : ℕ). stretches_from P o n e) (opened_some (opened since t) (suc t) (opened_one since t l)))

  apart : (k since m t : ℕ) → m ≡ k + n → e ≡ suc (t + k) → ((u : ℕ) → t ≤ u → u < e → P u ≡ false)
      → stretches_from P since (suc m) t ≡ closed since t ++ stretches_from P 0 n e
  unfolding stretches_from
  apart zero since m t a b h =
      let c : m ≡ n = omega arith in
      let d : e ≡ suc t = omega arith in
      rw (h t (omega arith) (omega arith), c, d)
  apart (suc k) since zero t a b h = absurd (omega arith)
  apart (suc k) since (suc m) t a b h =
      rw (h t (omega arith) (omega arith))
      (ap (λ (xs : List Stretch). closed since t ++ xs)
      (apart k 0 m (suc t) (omega arith) (omega arith) (λ u i j. h u (omega arith) j)
      ∙ ap (λ (ys : List Stretch). ys ++ stretches_from P 0 n e) (closed_none (suc t))))

split : (t e last : ℕ) → t < e → e ≤ last → last - t ≡ suc (last - suc t)
split t e last l m = omega arith

-- FROM t TO BEFORE e, IN A WINDOW TO BEFORE last, THE TEST IS THE SAME
pub stays : (P : ℕ → Bool) (b : Bool) (since t e last : ℕ) → 0 < t → t < e → e ≤ last → ((u : ℕ) → t ≤ u → u < e → P u ≡ b)
    → stretches_from P since (last - t) t ≡ ending b since t ++ stretches_from P (opening b since t) (last - e) e
unfolding ending opening
stays P true since t e last p l m h =
    ap (λ (n : ℕ). stretches_from P since n t) (split t e last l m)
    ∙ through P (last - e) e (e - suc t) since (last - suc t) t (omega arith) (omega arith) p h
stays P false since t e last p l m h =
    ap (λ (n : ℕ). stretches_from P since n t) (split t e last l m)
    ∙ apart P (last - e) e (e - suc t) since (last - suc t) t (omega arith) (omega arith) h

-- two tests that are the same in a window
same-from : (P Q : ℕ → Bool) (n since t : ℕ) → ((u : ℕ) → t ≤ u → u < t + n → P u ≡ Q u) → stretches_from P since n t ≡ stretches_from Q since n t
unfolding stretches_from
same-from P Q zero since t h = refl
same-from P Q (suc n) since t h =
    rw (h t (omega arith) (omega arith))
    (go (Q t) (same-from P Q n (opened since t) (suc t) (λ u i j. h u (omega arith) (omega arith))) (same-from P Q n 0 (suc t) (λ u i j. h u (omega arith) (omega arith))))
  where
    go : (b : Bool) → stretches_from P (opened since t) n (suc t) ≡ stretches_from Q (opened since t) n (suc t)
        → stretches_from P 0 n (suc t) ≡ stretches_from Q 0 n (suc t)
        → pick b (stretches_from P (opened since t) n (suc t)) (closed since t ++ stretches_from P 0 n (suc t))
        ≡ pick b (stretches_from Q (opened since t) n (suc t)) (closed since t ++ stretches_from Q 0 n (suc t))
    go true e f = e
    go false e f = ap (λ (xs : List Stretch). closed since t ++ xs) f

pub same-stretches : (P Q : ℕ → Bool) (first last : ℕ) → ((u : ℕ) → first ≤ u → u < last → P u ≡ Q u) → stretches P first last ≡ stretches Q first last
unfolding stretches
same-stretches P Q first last h = same-from P Q (last - first) 0 first (λ u i j. h u i (omega arith))

-- the test fails from an instant on: the window may end there
none_from : (P : ℕ → Bool) (n since t : ℕ) → ((u : ℕ) → t ≤ u → u < t + n → P u ≡ false) → stretches_from P since n t ≡ closed since t
unfolding stretches_from
none_from P zero since t h = refl
none_from P (suc n) since t h =
    rw (h t (omega arith) (omega arith))
    (ap (λ (xs : List Stretch). closed since t ++ xs) (none_from P n 0 (suc t) (λ u i j. h u (omega arith) (omega arith)) ∙ closed_none (suc t)) ∙ append-nil (closed since t))

short-from : (P : ℕ → Bool) (k m since t : ℕ) → k ≤ m → ((u : ℕ) → t + k ≤ u → u < t + m → P u ≡ false) → stretches_from P since k t ≡ stretches_from P since m t
unfolding stretches_from
short-from P zero m since t l h = sym (none_from P m since t (λ u i j. h u (omega arith) j))
short-from P (suc k) zero since t l h = absurd (omega arith)
short-from P (suc k) (suc m) since t l h =
    rw (
      short-from P k m (opened since t) (suc t) (omega arith) (λ u i j. h u (omega arith) (omega arith)),
      short-from P k m 0 (suc t) (omega arith) (λ u i j. h u (omega arith) (omega arith)),
    )

pub short-window : (P : ℕ → Bool) (first stop last : ℕ) → stop ≤ last → ((u : ℕ) → stop ≤ u → u < last → P u ≡ false) → stretches P first stop ≡ stretches P first last
unfolding stretches
short-window P first stop last l h = short-from P (stop - first) (last - first) 0 first (omega arith) (λ u i j. h u (omega arith) (omega arith))

-- two numbers each
pub numbers-length : (xs : List Stretch) → length (numbers_of xs) ≡ 2 * length xs
unfolding numbers_of
numbers-length [] = refl
numbers-length (x ∷ xs) = omega (arith, numbers-length xs)

-- each way out of the writer
module _ (d : List ℤ) (k since t : ℕ) where
  pub none-put : since ≡ 0 → (k ≡ k + length (closed since t)) × (d ≡ sets d (2 * k) (numbers_of (closed since t)))
  unfolding closed numbers_of
  none-put h = rw (eq-eqb since 0 h) (omega arith, refl)

  pub one-put : (a b : ℤ) (e : List ℤ) → (since ≡ 0 → ⊥) → a ≡ ticks_of since → b ≡ ticks_of t → e ≡ set (set d (2 * k) a) (2 * k + 1) b
      → (k + 1 ≡ k + length (closed since t)) × (e ≡ sets d (2 * k) (numbers_of (closed since t)))
  unfolding closed numbers_of
  one-put a b e h i j g = let q : 2 * k + 1 ≡ suc (2 * k) = omega arith in rw (ne_eqb since 0 h) (omega arith, g ∙ rw (i, j, q))

-- each way out of `mark`
module _ (d : List ℤ) (m : Marks) (t : ℕ) (b : Bool) where
  pub mark-opens : b ≡ true → m.since ≡ 0 → Marked d m t b (record { count = m.count; since = t }) d
  unfolding ending opening opened numbers_of
  mark-opens e h = rw e (record { count = omega arith; since = rw (eq-eqb m.since 0 h); put = refl })

  pub mark-goes-on : b ≡ true → (m.since ≡ 0 → ⊥) → Marked d m t b m d
  unfolding ending opening numbers_of
  mark-goes-on e h = rw e (record { count = omega arith; since = sym (opened_some m.since t h); put = refl })

  pub mark-ends : b ≡ false → (k : ℕ) (e : List ℤ) → (k ≡ m.count + length (closed m.since t)) × (e ≡ sets d (2 * m.count) (numbers_of (closed m.since t)))
      → Marked d m t b (record { count = k; since = 0 }) e
  unfolding ending opening
  mark-ends f k e h = rw f (record { count = h.0; since = refl; put = h.1 })

-- at most one stretch ends
closed-most : (since t : ℕ) → length (closed since t) ≤ 1
unfolding closed
closed-most since t = pick-holds (λ (xs : List Stretch). length xs ≤ 1) (eqb since 0) (λ e. omega arith) (λ e. omega arith)

pub ending-most : (b : Bool) (since t : ℕ) → length (ending b since t) ≤ 1
unfolding ending
ending-most true since t = omega arith
ending-most false since t = closed-most since t

-- so a window has one stretch more than instants at most
from-most : (P : ℕ → Bool) (n since t : ℕ) → length (stretches_from P since n t) ≤ suc n
unfolding stretches_from
from-most P zero since t = closed-most since t
from-most P (suc n) since t =
    pick-holds (λ (xs : List Stretch). length xs ≤ suc (suc n)) (P t) (λ e. omega (arith, from-most P n (opened since t) (suc t)))
    (λ e. omega (arith, length-append (closed since t) (stretches_from P 0 n (suc t)), closed-most since t, from-most P n 0 (suc t)))

pub stretches-most : (P : ℕ → Bool) (first last : ℕ) → length (stretches P first last) ≤ suc (last - first)
unfolding stretches
stretches-most P first last = from-most P (last - first) 0 first

-- and what is put behind it
put_one : (d : List ℤ) (k : ℕ) (xs ys : List Stretch) → length xs ≤ 1
    → sets (sets d (2 * k) (numbers_of xs)) (2 * (k + length xs)) (numbers_of ys) ≡ sets d (2 * k) (numbers_of (xs ++ ys))
unfolding numbers_of
put_one d k [] ys h = let a : 2 * (k + 0) ≡ 2 * k = omega arith in rw a
put_one d k (x ∷ []) ys h = let a : 2 * (k + 1) ≡ suc (suc (2 * k)) = omega arith in rw a
put_one d k (x ∷ y ∷ xs) ys h = absurd (omega arith)

-- a step leaves the stretches of the window as they are: k of them in the list, the others to come
module _ (d : List ℤ) (m : Marks) (t : ℕ) (b : Bool) (r : Marks) (e : List ℤ) (k : Marked d m t b r e) (ys : List Stretch) where
  pub marked-count : r.count + length ys ≡ m.count + length (ending b m.since t ++ ys)
  marked-count = simp length-append (omega (arith, k.count))

  pub marked-put : sets e (2 * r.count) (numbers_of ys) ≡ sets d (2 * m.count) (numbers_of (ending b m.since t ++ ys))
  marked-put = rw (k.put, k.count) (put_one d m.count (ending b m.since t) ys (ending-most b m.since t))

  pub marked-most : r.count ≤ m.count + 1
  marked-most = omega (arith, k.count, ending-most b m.since t)
