-- What the tests of the fields tell. Assumes nothing.
use mathlib.Core.Path.{◌≡◌}
use mathlib.Core.Bool.{true}
use Prim.Native.Nat.{ℕ, ◌+◌, ◌/◌, ◌%◌, ◌≤◌, ◌<◌}
use native.Mathlib.Omega.{arith}
use lib.Dec.{ltb, leb}
use borrow.Author.Tests.{leb-true, ltb-true}
use Rattle.base.proofs.Tests.{both_left, both_right}
use Rattle.rules.specs.Rules.{RuleOk, most_day}
use Rattle.rules.specs.Fields.{byte_ok, month_ok, from_end, day_of, day_ok, time_ok, rule_of, FieldsOk, sum_ok}

mode-high : (b : ℕ) → byte_ok b ≡ true → b / 32 % 4 ≤ 2
unfolding byte_ok
mode-high b e = omega (arith, ltb-true (b / 32 % 4) 3 (both_right (leb b 127) (ltb (b / 32 % 4) 3) e))

pub month-range : (m : ℕ) → month_ok m ≡ true → (1 ≤ m) × (m ≤ 12)
unfolding month_ok
month-range m e = (leb-true _ _ (both_left (leb 1 m) (leb m 12) e), leb-true _ _ (both_right (leb 1 m) (leb m 12) e))

day-range : (m z : ℕ) → day_ok m z ≡ true → (1 ≤ day_of z) × (day_of z ≤ most_day m (from_end z))
unfolding day_ok
day-range m z e =
    (leb-true _ _ (both_left (leb 1 (day_of z)) (leb (day_of z) (most_day m (from_end z))) e), leb-true _ _ (both_right (leb 1 (day_of z)) (leb (day_of z) (most_day m (from_end z))) e))

pub time-range : (s : ℕ) → time_ok s ≡ true → (86400000 ≤ s) × (s < 172800000)
unfolding time_ok
time-range s e =
    (leb-true _ _ (both_left (leb 86400000 s) (ltb s 172800000) e), ltb-true _ _ (both_right (leb 86400000 s) (ltb s 172800000) e))

pub sum-range : (o s : ℕ) → sum_ok o s ≡ true → (86400000 < o + s) × (o + s < 259200000)
unfolding sum_ok
sum-range o s e =
    (ltb-true _ _ (both_left (ltb 86400000 (o + s)) (ltb (o + s) 259200000) e), ltb-true _ _ (both_right (ltb 86400000 (o + s)) (ltb (o + s) 259200000) e))

-- fields that pass their tests give a rule in its ranges
pub rule-ok : (b month z sum : ℕ) → FieldsOk b month z sum → RuleOk (rule_of b month z sum)
rule-ok b month z sum ok =
    record {
      mode-high = mode-high b ok.byte-ok;
      weekday-high = omega arith;
      month-low = (month-range month ok.month-ok).0;
      month-high = (month-range month ok.month-ok).1;
      day-low = (day-range month z ok.day-ok).0;
      day-high = (day-range month z ok.day-ok).1;
      time-high = omega (arith, time-range sum ok.time-ok);
    }
