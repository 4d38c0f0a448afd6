-- Worked intervals: standard offsets at and around 24 hours. Assumes nothing.
use Rattle.base.specs.declared.Refusal.TheVariants.{BadCode, BadData, BadInterval}
use mathlib.Core.Path.{◌≡◌, refl}
use mathlib.Core.List.{List, [], ◌∷◌, map}
use Prim.Native.Nat.{ℕ}
use Rattle.base.specs.Parsed.{Parsed, got, bad}
use Rattle.base.specs.Moment.{start_of_time, end_of_time}
use Rattle.counts.specs.Groups.{read_groups}
use Rattle.counts.specs.Fixed.{fixed_from}
use Rattle.offsets.specs.Offset.{read_sum}
use Rattle.transitions.specs.Transition.{from_count, read_moment}
use Rattle.places.specs.Name.{judge_name, parse_name}
use Rattle.intervals.specs.Interval.{standard_sum}
use Rattle.intervals.specs.InOrder.{interval_in_order}
use Rattle.intervals.specs.declared.Interval.{Interval}

-- the first interval of a zone: start of time, the pool's string 0, and the bytes that are given
abbrev read : List ℕ → Parsed Interval
read s = interval_in_order 1 end_of_time (0 ∷ 0 ∷ s)

abbrev is : ℕ → ℕ → List ℕ → Parsed Interval
is wall savings s = got (record { start = start_of_time; name = 0; wall = wall; savings = savings }) s

-- 24 hours either way; the same where the data end there and before a code that is refused; savings whose own code is refused, or cut
pub refused :
    map read
    ((0x5F ∷ 0x2F ∷ 1 ∷ 0 ∷ []) ∷ (0x01 ∷ 0x31 ∷ 1 ∷ 0 ∷ []) ∷ (0x5F ∷ 0x2F ∷ []) ∷ (0x5F ∷ 0x2F ∷ 3 ∷ []) ∷ (0x5F ∷ 0x60 ∷ []) ∷ (0x5F ∷ []) ∷ [])
    ≡ bad BadInterval ∷ bad BadInterval ∷ bad BadInterval ∷ bad BadInterval ∷ bad BadCode ∷ bad BadData ∷ []
unfolding interval_in_order read_moment from_count read_groups parse_name judge_name read_sum
refused = refl

-- 23:30 either way, and a millisecond less than 24 hours: +23:59:59.999 without savings
pub taken :
    map read ((0x5F ∷ 0x30 ∷ 1 ∷ []) ∷ (0x01 ∷ 0x30 ∷ []) ∷ (0xCA ∷ 0x4C ∷ 0xB7 ∷ 0xFF ∷ 0x30 ∷ []) ∷ [])
    ≡ is 171000000 86400000 (1 ∷ []) ∷ is 1800000 86400000 [] ∷ is 172799999 86400000 [] ∷ []
unfolding interval_in_order read_moment from_count read_groups parse_name judge_name read_sum fixed_from
taken = refl

-- +02:00 with an hour of savings is +01:00 of standard time; with savings of -01:00 it is +03:00
pub standards : standard_sum 93600000 90000000 ∷ standard_sum 93600000 82800000 ∷ [] ≡ 90000000 ∷ 97200000 ∷ []
standards = refl
