-- The transition code, over moments. To be believed.
use Rattle.base.specs.Coded.{Coded}
use Rattle.base.specs.declared.Refusal.TheVariants.{BadCode}
use Rattle.std.specs.Prelude.{ℕ, ◌+◌, ◌*◌, ◌-◌, ◌/◌, ◌%◌, List, ◌∷◌, Bool, true, ltb, leb, eqb, ℤ, drop, Err, Ok}
use Rattle.base.specs.Pick.{pick, both}
use Rattle.base.specs.Moment.{finite, start_of_time, end_of_time}
use Rattle.base.specs.Writing.{Form, bytes, unfit}
use Rattle.counts.specs.Count.{read_count, write_count}
use Rattle.counts.specs.Fixed.{read_fixed, fixed_bytes}
use Rattle.signed.specs.Number.{number}
use Rattle.signed.specs.Instant.{instant_of, ticks_of, moment_of, from_raw, raw_of}

-- an hour and a minute in ticks
abbrev pub hour : ℕ
hour = 36000000000

abbrev pub minute : ℕ
minute = 600000000

-- "1800-01-01T00:00Z (tick -53646624000000000)"
abbrev pub year1800 : ℕ
year1800 = 693937152000000000

-- "A finite result outside the range gives 7"
abbrev pub in_range : ℕ → ℕ → Coded ℕ
in_range n t = pick (finite t) (Ok (t, n)) (Err BadCode)

-- "hours after the previous, which must be finite"
abbrev pub hours_after : ℕ → ℕ → ℕ → Coded ℕ
hours_after previous v n = pick (finite previous) (in_range n (previous + v * hour)) (Err BadCode)

-- "0 start of time; 1 end of time; .. 3 to 127 refused; 128 to 2097151 hours after the previous ..; from 2097152 on, minutes
-- since 1800-01-01": every count v but 2, in n bytes
unfoldable pub from_count : ℕ → ℕ → ℕ → Coded ℕ
from_count previous v n =
    pick (eqb v 0) (Ok (start_of_time, n))
    (pick (eqb v 1) (Ok (end_of_time, n))
    (pick (ltb v 128) (Err BadCode)
    (pick (ltb v 2097152) (hours_after previous v n) (in_range n (year1800 + v * minute)))))

-- "2 then eight bytes, high first, signed ticks": the eight bytes, behind the n of the count
abbrev pub from_ticks : ℕ → Coded ℕ → Coded ℕ
from_ticks n (Ok (raw, m)) = in_range (n + m) (from_raw raw)
from_ticks n (Err k) = Err k

abbrev pub after_count : ℕ → List ℕ → Coded ℕ → Coded ℕ
after_count previous s (Ok (v, n)) = pick (eqb v 2) (from_ticks n (read_fixed 8 0 (drop n s))) (from_count previous v n)
after_count previous s (Err k) = Err k

-- "Transition: a count": the moment that s starts with. "The reader takes any form."
unfoldable pub read_moment : ℕ → List ℕ → Coded ℕ
read_moment previous s = after_count previous s (read_count s)

-- the count of whole units from one instant to another where it is least or more and below limit; 0 where it is not
unfoldable pub units_to : ℕ → ℕ → ℕ → ℕ → ℕ → ℕ
units_to unit least limit from t =
    pick (both (leb from t) (both (eqb ((t - from) % unit) 0) (both (leb least ((t - from) / unit)) (ltb ((t - from) / unit) limit))))
    ((t - from) / unit) 0

abbrev pub hours_to : ℕ → ℕ → ℕ
hours_to previous t = pick (finite previous) (units_to hour 128 2097152 previous t) 0

abbrev pub minutes_to : ℕ → ℕ
minutes_to t = units_to minute 2097152 2147483648 year1800 t

-- the count that says t by hours or else by minutes; 0 where none does
abbrev pub count_to : ℕ → ℕ → ℕ
count_to previous t = pick (eqb (hours_to previous t) 0) (minutes_to t) (hours_to previous t)

-- "The writer takes the first that fits: mark, hours, minutes, ticks."
unfoldable pub write_moment : ℕ → ℕ → List ℕ
write_moment previous m =
    pick (eqb m start_of_time) (write_count 0)
    (pick (eqb m end_of_time) (write_count 1)
    (pick (eqb (count_to previous m) 0) (2 ∷ fixed_bytes 8 (raw_of m)) (write_count (count_to previous m))))

-- a mark or an instant
abbrev pub is_moment : ℕ → Bool
is_moment m = pick (eqb m start_of_time) true (pick (eqb m end_of_time) true (finite m))

-- "writing, 7 for a number the code can't carry"
abbrev pub moment_form : ℕ → ℕ → Form
moment_form previous m = pick (is_moment m) (bytes (write_moment previous m)) (unfit BadCode)

-- the transition code in signed ticks: a previous one outside the instants, marks included, is not finite
abbrev pub read_transition : ℤ → List ℕ → Coded ℤ
read_transition previous s = number ticks_of (read_moment (instant_of previous) s)

abbrev pub transition_form : ℤ → ℤ → Form
transition_form previous t = moment_form (instant_of previous) (moment_of t)
