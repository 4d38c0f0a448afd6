-- A rule from its fields in the file, each judged as soon as it is read. To be believed.
use Rattle.std.specs.Prelude.{◌≡◌, Bool, true, ℕ, ◌+◌, ◌-◌, ◌/◌, ◌%◌, eqb, ltb, leb}
use Rattle.base.specs.Pick.{both}
use Rattle.rules.specs.declared.Rule.{Rule}
use Rattle.rules.specs.Rules.{most_day}

-- "a byte 0MMDDDAP": "A set top bit or MM 3 gives 11"
unfoldable pub byte_ok : ℕ → Bool
byte_ok b = both (leb b 127) (ltb (b / 32 % 4) 3)

-- "month as count"
unfoldable pub month_ok : ℕ → Bool
month_ok month = both (leb 1 month) (leb month 12)

-- "day as signed count", as the number that stands in the file: 0, -1, 1, -2 map to 0, 1, 2, 3. Sign and size of the signed count
-- (signed-day in proofs/DayLaws.antt)
abbrev pub from_end : ℕ → Bool
from_end z = eqb (z % 2) 1

abbrev pub day_of : ℕ → ℕ
day_of z = z / 2 + z % 2

unfoldable pub day_ok : ℕ → ℕ → Bool
day_ok month z = both (leb 1 (day_of z)) (leb (day_of z) (most_day month (from_end z)))

-- "time of day as an offset code from 00:00 to below 24:00"
unfoldable pub time_ok : ℕ → Bool
time_ok sum = both (leb 86400000 sum) (ltb sum 172800000)

abbrev pub rule_of : ℕ → ℕ → ℕ → ℕ → Rule
rule_of b month z sum =
    record {
      mode = b / 32 % 4;
      weekday = b / 4 % 8;
      after = eqb (b / 2 % 2) 1;
      plus = eqb (b % 2) 1;
      month = month;
      last = from_end z;
      day = day_of z;
      time = sum - 86400000;
    }

-- all four are allowed (rule-ok in proofs/FieldLaws.antt: then the rule is in its ranges)
pub record FieldsOk (b month z sum : ℕ) : Type 0 where
  pub byte-ok : byte_ok b ≡ true
  pub month-ok : month_ok month ≡ true
  pub day-ok : day_ok month z ≡ true
  pub time-ok : time_ok sum ≡ true

-- "Standard plus savings must lie inside 24 hours either way": both have 86,400,000 added
unfoldable pub sum_ok : ℕ → ℕ → Bool
sum_ok offset savings = both (ltb 86400000 (offset + savings)) (ltb (offset + savings) 259200000)
