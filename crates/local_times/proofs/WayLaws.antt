-- Each way out of the functions that count. Assumes nothing.
use mathlib.Core.Path.{◌≡◌}
use Prim.Native.Nat.{ℕ, ◌+◌, ◌-◌, ◌*◌, ◌≤◌, ◌<◌}
use borrow.Author.Tests.{lt-ltb, le-ltb, le-leb, lt-leb, eq-eqb, ne_eqb}
use Rattle.base.specs.Moment.{first_instant, last_instant, end_of_time}
use Rattle.base.proofs.MomentLaws.{finite-yes, finite-low, finite-high}
use Rattle.recurrence.specs.declared.Tail.{Tail}
use Rattle.recurrence.specs.Tails.{wall_of, lookup}
use Rattle.local_times.specs.Instants.{candidate, in_force_at, tail_candidate}
use Rattle.local_times.specs.View.{counted, with_tail}
use Rattle.local_times.proofs.CountLaws.{counted-few}
use Rattle.local_times.specs.declared.Tally.{Tally}

-- the candidate's tests
module _ (l w a e : ℕ) where
  pub cand-low : l < w * 10000 → 0 ≡ candidate l w a e
  unfolding candidate
  cand-low h = rw (lt-leb (w * 10000) l h)

  module _ (g : w * 10000 ≤ l) where
    pub cand-early : l - w * 10000 < first_instant → 0 ≡ candidate l w a e
    unfolding candidate
    cand-early h = rw (le-leb (w * 10000) l g, finite-low (l - w * 10000) h)

    pub cand-late : last_instant < l - w * 10000 → 0 ≡ candidate l w a e
    unfolding candidate
    cand-late h = rw (le-leb (w * 10000) l g, finite-high (l - w * 10000) h)

    module _ (h : first_instant ≤ l - w * 10000) (k : l - w * 10000 ≤ last_instant) where
      pub cand-before : l - w * 10000 < a → 0 ≡ candidate l w a e
      unfolding candidate
      cand-before j = rw (le-leb (w * 10000) l g, finite-yes (l - w * 10000) (record { low = h; high = k }), lt-leb a (l - w * 10000) j)

      pub cand-in : a ≤ l - w * 10000 → l - w * 10000 < e → l - w * 10000 ≡ candidate l w a e
      unfolding candidate
      cand-in j i = rw (le-leb (w * 10000) l g, finite-yes (l - w * 10000) (record { low = h; high = k }), le-leb a (l - w * 10000) j, lt-ltb (l - w * 10000) e i)

      pub cand-after : a ≤ l - w * 10000 → e ≤ l - w * 10000 → 0 ≡ candidate l w a e
      unfolding candidate
      cand-after j i = rw (le-leb (w * 10000) l g, finite-yes (l - w * 10000) (record { low = h; high = k }), le-leb a (l - w * 10000) j, le-ltb (l - w * 10000) e i)

-- the tail's candidate
module _ (l w : ℕ) (tail : Tail) (t : ℕ) (is : t ≡ candidate l w tail.start end_of_time) where
  pub tail_none : t ≡ 0 → 0 ≡ tail_candidate l w tail
  unfolding tail_candidate
  tail_none e = rw (← is, eq-eqb t 0 e)

  pub tail-some : (t ≡ 0 → ⊥) → (lookup tail t).wall ≡ w → t ≡ tail_candidate l w tail
  unfolding tail_candidate in_force_at
  tail-some n e = rw (← is, ne_eqb t 0 n, eq-eqb (lookup tail t).wall w e)

  pub tail-other : (t ≡ 0 → ⊥) → ((lookup tail t).wall ≡ w → ⊥) → 0 ≡ tail_candidate l w tail
  unfolding tail_candidate in_force_at
  tail-other n e = rw (← is, ne_eqb t 0 n, ne_eqb (lookup tail t).wall w e)

-- the tail's offsets in their order
module _ (l : ℕ) (a : Tally) (tail : Tail) where
  module _ (p q : ℕ) (d r : Tally) (last-is : r ≡ counted d q) (first-is : d ≡ counted a p) where
    pub with-larger : p ≡ tail_candidate l (wall_of tail) tail → q ≡ tail_candidate l tail.offset tail → tail.offset < wall_of tail → r ≡ with_tail l a tail
    unfolding with_tail
    with-larger e f h = rw (lt-ltb tail.offset (wall_of tail) h, last-is, first-is, e, f)

    pub with-smaller : p ≡ tail_candidate l tail.offset tail → q ≡ tail_candidate l (wall_of tail) tail → wall_of tail ≤ tail.offset → wall_of tail < tail.offset
        → r ≡ with_tail l a tail
    unfolding with_tail
    with-smaller e f g h = rw (le-ltb tail.offset (wall_of tail) g, lt-ltb (wall_of tail) tail.offset h, last-is, first-is, e, f)

  pub with-same : (p : ℕ) (r : Tally) → r ≡ counted a p → p ≡ tail_candidate l tail.offset tail → wall_of tail ≤ tail.offset → tail.offset ≤ wall_of tail
      → r ≡ with_tail l a tail
  unfolding with_tail
  with-same p r i e g h = rw (le-ltb tail.offset (wall_of tail) g, le-ltb (wall_of tail) tail.offset h, i, e)

pub few-more : (a : Tally) (t : ℕ) (r : Tally) → r ≡ counted a t → r.count ≤ a.count + 1
few-more a t r e = rw e (counted-few a t)
