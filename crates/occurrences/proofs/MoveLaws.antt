-- The move to a weekday: it is to the nearest, and by at most six days. Assumes nothing.
use mathlib.Core.Path.{◌≡◌, sym, ◌∙◌}
use mathlib.Core.Bool.{Bool, true, false}
use Prim.Native.Nat.{ℕ, ◌+◌, ◌%◌, ◌≤◌, ◌<◌}
use native.Mathlib.Omega.{arith}
use lib.Dec.{eqb}
use Rattle.base.specs.Pick.{pick}
use Rattle.base.proofs.Tests.{by_order}
use Rattle.calendar.specs.Calendar.{weekday_of}
use Rattle.occurrences.specs.Rules.{IsOnOrAfter, IsOnOrBefore, on_or_after, on_or_before, moved}

after_on : (w n : ℕ) → 1 ≤ w → w ≤ 7 → weekday_of (on_or_after w n) ≡ w
unfolding on_or_after
after_on w n h l = omega arith

after-range : (w n : ℕ) → (n ≤ on_or_after w n) × (on_or_after w n ≤ n + 6)
unfolding on_or_after
after-range w n = omega arith

before_on : (w n : ℕ) → 1 ≤ w → w ≤ 7 → 7 ≤ n → weekday_of (on_or_before w n) ≡ w
unfolding on_or_before
before_on w n h l g = omega arith

before-range : (w n : ℕ) → (n ≤ on_or_before w n + 6) × (on_or_before w n ≤ n)
unfolding on_or_before
before-range w n = omega arith

-- two days of one weekday are a week apart
apart : (x y : ℕ) → weekday_of x ≡ weekday_of y → x < y → x + 7 ≤ y
apart x y e h = omega arith

-- "the nearest one on or after .. or on or before, the bound date itself counting"
pub is-on-or-after : (w n : ℕ) → 1 ≤ w → w ≤ 7 → IsOnOrAfter w n (on_or_after w n)
is-on-or-after w n h l =
    record {
      on = after_on w n h l;
      from = (after-range w n).0;
      nearest = λ e p g. by_order e (on_or_after w n) (λ b. omega (arith, apart e (on_or_after w n) (p ∙ sym (after_on w n h l)) b, after-range w n)) (λ b. b);
    }

pub is-on-or-before : (w n : ℕ) → 1 ≤ w → w ≤ 7 → 7 ≤ n → IsOnOrBefore w n (on_or_before w n)
is-on-or-before w n h l m =
    record {
      on = before_on w n h l m;
      to = (before-range w n).1;
      nearest = λ e p g. by_order (on_or_before w n) e (λ b. omega (arith, apart (on_or_before w n) e (before_on w n h l m ∙ sym p) b, before-range w n)) (λ b. b);
    }

pub moved-range : (w : ℕ) (a : Bool) (n : ℕ) → (n ≤ moved w a n + 6) × (moved w a n ≤ n + 6)
unfolding moved
moved-range w a n = go (eqb w 0) a
  where
    go : (b a : Bool) → (n ≤ pick b n (pick a (on_or_after w n) (on_or_before w n)) + 6) × (pick b n (pick a (on_or_after w n) (on_or_before w n)) ≤ n + 6)
    go true a = omega arith
    go false true = omega (arith, after-range w n)
    go false false = omega (arith, before-range w n)

-- 20871 weeks later the move is the same
move-400 : (w n : ℕ) → (on_or_after w (n + 146097) ≡ on_or_after w n + 146097) × (7 ≤ n → on_or_before w (n + 146097) ≡ on_or_before w n + 146097)
unfolding on_or_after on_or_before
move-400 w n =
    let a : (n + 146097) % 7 ≡ n % 7 = omega arith in
    (rw a (omega arith), λ h. rw a (omega arith))

pub moved-400 : (w : ℕ) (a : Bool) (n : ℕ) → 7 ≤ n → moved w a (n + 146097) ≡ moved w a n + 146097
unfolding moved
moved-400 w a n h = go (eqb w 0) a
  where
    go : (b a : Bool) → pick b (n + 146097) (pick a (on_or_after w (n + 146097)) (on_or_before w (n + 146097))) ≡ pick b n (pick a (on_or_after w n) (on_or_before w n)) + 146097
    go true a = omega arith
    go false true = (move-400 w n).0
    go false false = (move-400 w n).1 h
