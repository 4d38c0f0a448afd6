-- A file that meets demand 2's premises with a list and a tail behind another zone: shown well formed, its zones right at every instant in
-- range, and answers computed at the changes. Assumes nothing.
use Rattle.answers.specs.declared.Found.{Found}
use Rattle.base.specs.Coded.{Fault}
use Rattle.std.specs.Prelude.{Err, Ok, Result}
use mathlib.Core.Path.{◌≡◌, refl}
use mathlib.Core.List.{List, [], ◌∷◌, map}
use Prim.Native.Nat.{ℕ, ◌*◌, ◌-◌}
use lib.IntN.{ℤ, pos, negsuc}
use lib.ListN.{drop}
use Rattle.base.specs.Run.{iterate}
use Rattle.base.specs.Parsed.{parse_byte, ended, many, behind}
use Rattle.signed.specs.Instant.{biased_of}
use Rattle.counts.specs.Groups.{any_groups, read_groups}
use Rattle.offsets.specs.Offset.{read_sum}
use Rattle.transitions.specs.Transition.{from_count, read_moment}
use Rattle.utf8.specs.Utf8.{chars}
use Rattle.texts.specs.Text.{text_sized}
use Rattle.calendar.specs.Calendar.{leap_day, month_length, days_before, year_start, day_number, estimate, year_of}
use Rattle.rules.specs.Rules.{most_day}
use Rattle.occurrences.specs.Rules.{month_day, on_or_after, on_or_before, moved, falls_on, occurrence, subtracted}
use Rattle.rules.specs.Fields.{byte_ok, month_ok, day_ok, time_ok, sum_ok}
use Rattle.recurrence.specs.Search.{search_from, year_before, last_at, next_after}
use Rattle.recurrence.specs.Tails.{standard_in, daylight_in, lookup}
use Rattle.pool.specs.Pool.{all_strings, counted}
use Rattle.pool.specs.Index.{read_starts, starts_in}
use Rattle.base.specs.Equal.{equal}
use Rattle.places.specs.Name.{judge_name, parse_name}
use Rattle.intervals.specs.Interval.{judge_standard, after_wall, after_name, parse_details, after_start, parse_interval}
use Rattle.tails.specs.Tail.{after_time, parse_time, after_day, parse_day, after_month, parse_month, after_byte, parse_rule}
use Rattle.tails.specs.Tail.{after_standard_name, after_offset, parse_standard, after_savings, parse_savings, after_daylight_name, parse_daylight, parse_tail}
use Rattle.zones.specs.Parse.{zone_of, after_tail, parse_tailed, after_tail_byte, after_end, after_intervals, after_count, parse_listed}
use Rattle.zones.specs.Parse.{after_fixed_offset, parse_fixed, after_flag, after_id, parse_zone}
use Rattle.zones.specs.Editions.{under}
use Rattle.zones.specs.declared.Edition.TheVariants.{Two}
use Rattle.zones.specs.Lookup.{holding, in_list, in_tail, behind_list, fixed_name_of, in_body}
use Rattle.ids.specs.Ids.{among}
use Rattle.frames.specs.Frame.{order, zeros, version, sized, field, frame, Field}
use Rattle.frames.specs.Machine.{act, step, walk}
use Rattle.frames.specs.Fields.{scan, listing}
use Rattle.field_checks.specs.Check.{pool_kept, new_id, zone_kept, judged, concluded, conclusion, WellFormed}
use Rattle.field_checks.proofs.WellFormedLaws.{good-well-formed}
use Rattle.locate.specs.Asked.{says}
use Rattle.questions.specs.Question.{ask, ask_plain}
use Rattle.answers.specs.Answers.{name_of}
use Rattle.demands.specs.Right.{Answered}
use Rattle.demands.proofs.Right.{demand-2}

-- the pool "Z", "S", "D"; a fixed zone "S"; and a zone "Z"
abbrev pub file : List ℕ
file =
    0 ∷ 0 ∷ 0 ∷ 0
    ∷ 0 ∷ 7 ∷ 3 ∷ 1 ∷ 90 ∷ 1 ∷ 83 ∷ 1 ∷ 68
    ∷ 1 ∷ 4 ∷ 1 ∷ 1 ∷ 0x30 ∷ 1
    ∷ 1 ∷ 29
    -- ID, flag, two intervals: from start of time "S" at +01:00; from 1970-01-01T00:00Z, in minutes since 1800, "D" at +02:00
    ∷ 0 ∷ 2 ∷ 2 ∷ 0 ∷ 1 ∷ 0x32 ∷ 0x30 ∷ 0xE0 ∷ 0x9B ∷ 0xD1 ∷ 0x2A ∷ 2 ∷ 0x34 ∷ 0x32
    -- the end, 5,040 hours later, and a tail: +01:00, "S" from the last Sunday of October, "D" from the last Sunday of March, +01:00 more
    ∷ 0xB0 ∷ 0x27 ∷ 1 ∷ 0x32 ∷ 1 ∷ 0x1C ∷ 10 ∷ 1 ∷ 0x32 ∷ 2 ∷ 0x1C ∷ 3 ∷ 1 ∷ 0x32 ∷ 0x32 ∷ []

pub well-formed : WellFormed file
unfolding conclusion walk iterate step act frame version zeros field order sized any_groups read_groups many counted all_strings ended concluded pool_kept judged chars text_sized zone_kept new_id among equal parse_zone after_id after_flag parse_fixed after_fixed_offset zone_of parse_byte parse_name judge_name read_sum parse_listed after_count after_intervals after_end after_tail_byte parse_tailed after_tail behind read_moment from_count parse_interval after_start parse_details after_name after_wall judge_standard parse_tail parse_daylight after_daylight_name parse_savings after_savings parse_standard after_offset after_standard_name parse_rule after_byte parse_month after_month parse_day after_day parse_time after_time byte_ok month_ok day_ok time_ok sum_ok most_day month_length leap_day
well-formed = good-well-formed file refl

abbrev pool : Field
pool = record { place = 4; id = 0; start = 6; past = 13; body = 3 ∷ 1 ∷ 90 ∷ 1 ∷ 83 ∷ 1 ∷ 68 ∷ [] }

abbrev zone-s : Field
zone-s = record { place = 13; id = 1; start = 15; past = 19; body = 1 ∷ 1 ∷ 0x30 ∷ 1 ∷ [] }

abbrev zone-z : Field
zone-z = record { place = 19; id = 1; start = 21; past = 50; body = drop 21 file }

-- both zones are right at every instant in range
pub s-right : Answered file zone-s
unfolding listing scan frame version zeros field sized order any_groups
s-right = demand-2 file well-formed zone-s (record { before = pool ∷ []; behind = zone-z ∷ []; splits = refl; is-zone = refl })

pub z-right : Answered file zone-z
unfolding listing scan frame version zeros field sized order any_groups
z-right = demand-2 file well-formed zone-z (record { before = pool ∷ zone-s ∷ []; behind = []; splits = refl; is-zone = refl })

-- the values of an answer, the name byte for byte; none of a refusal
pub data Values : Type 0 where
  values : ℤ → ℤ → ℤ → List ℕ → ℤ → ℤ → Values
  none : Values

abbrev values_of : Result Found Fault → Values
values_of (Ok x) = values x.wall x.savings x.standard (name_of file x) x.start x.end
values_of (Err (n, p)) = none

abbrev asked : ℤ → Values
asked z = values_of (ask_plain file (90 ∷ []) z Two)

-- ticks of a Unix second
abbrev at : ℕ → ℤ
at second = pos (second * 10000000)

-- "Z" in the list: the last tick before the change of 1970, and its instant, which belongs to the new interval; in the tail: at its start, on
-- 1970-07-30; the last tick before the change of 2024-03-31, and its instant
pub answers :
    map asked (negsuc 0 ∷ pos 0 ∷ at 18144000 ∷ pos (1711846800 * 10000000 - 1) ∷ at 1711846800 ∷ [])
    ≡ values (pos 3600000) (pos 0) (pos 3600000) (83 ∷ []) (negsuc 9223372036854775807) (pos 0)
    ∷ values (pos 7200000) (pos 3600000) (pos 3600000) (68 ∷ []) (pos 0) (at 18144000)
    ∷ values (pos 7200000) (pos 3600000) (pos 3600000) (68 ∷ []) (at 18144000) (at 25664400)
    ∷ values (pos 3600000) (pos 0) (pos 3600000) (83 ∷ []) (at 1698541200) (at 1711846800)
    ∷ values (pos 7200000) (pos 3600000) (pos 3600000) (68 ∷ []) (at 1711846800) (at 1729990800)
    ∷ []
unfolding ask says biased_of walk iterate step act frame version zeros field order sized any_groups read_groups many counted all_strings ended chars text_sized equal read_starts starts_in parse_zone after_id after_flag parse_fixed after_fixed_offset zone_of parse_byte parse_name judge_name read_sum parse_listed after_count after_intervals after_end after_tail_byte parse_tailed after_tail behind read_moment from_count parse_interval after_start parse_details after_name after_wall judge_standard parse_tail parse_daylight after_daylight_name parse_savings after_savings parse_standard after_offset after_standard_name parse_rule after_byte parse_month after_month parse_day after_day parse_time after_time byte_ok month_ok day_ok time_ok sum_ok most_day month_length leap_day holding in_list in_tail behind_list fixed_name_of in_body under lookup last_at next_after year_before search_from year_of estimate standard_in daylight_in occurrence subtracted falls_on moved on_or_after on_or_before month_day day_number days_before year_start
answers = refl
