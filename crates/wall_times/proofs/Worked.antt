-- Files worked through: their mappings are computed, and law map-some says that each is the one that Ask 3 means. Assumes nothing.
use Rattle.base.specs.declared.Refusal.TheVariants.{NoInstant}
use Rattle.base.specs.Coded.{Fault}
use Rattle.std.specs.Prelude.{Err, Ok, Result}
use mathlib.Core.Path.{◌≡◌, refl, subst}
use mathlib.Core.List.{List, [], ◌∷◌}
use Prim.Native.Nat.{ℕ, ◌*◌}
use lib.IntN.{ℤ, pos, negsuc}
use Rattle.base.specs.Run.{iterate}
use Rattle.base.specs.Parsed.{parse_byte, ended, many, behind}
use Rattle.base.specs.Equal.{equal}
use Rattle.signed.specs.Instant.{biased_of}
use Rattle.counts.specs.Groups.{any_groups, read_groups}
use Rattle.offsets.specs.Offset.{read_sum}
use Rattle.transitions.specs.Transition.{from_count, read_moment}
use Rattle.utf8.specs.Utf8.{chars}
use Rattle.texts.specs.Text.{text_sized}
use Rattle.calendar.specs.Calendar.{leap_day, month_length, days_before, year_start, day_number, estimate, year_of}
use Rattle.rules.specs.Rules.{most_day}
use Rattle.rules.specs.Fields.{byte_ok, month_ok, day_ok, time_ok, sum_ok}
use Rattle.occurrences.specs.Rules.{month_day, on_or_after, on_or_before, moved, falls_on, occurrence, subtracted}
use Rattle.recurrence.specs.Search.{search_from, year_before, last_at, next_after}
use Rattle.recurrence.specs.Tails.{standard_in, daylight_in, lookup}
use Rattle.pool.specs.Pool.{all_strings, counted}
use Rattle.places.specs.Name.{judge_name, parse_name}
use Rattle.intervals.specs.Interval.{judge_standard, after_wall, after_name, parse_details, after_start, parse_interval}
use Rattle.tails.specs.Tail.{after_time, parse_time, after_day, parse_day, after_month, parse_month, after_byte, parse_rule}
use Rattle.tails.specs.Tail.{after_standard_name, after_offset, parse_standard, after_savings, parse_savings, after_daylight_name, parse_daylight, parse_tail}
use Rattle.zones.specs.Parse.{zone_of, after_tail, parse_tailed, after_tail_byte, after_end, after_intervals, after_count, parse_listed}
use Rattle.zones.specs.Parse.{after_fixed_offset, parse_fixed, after_flag, after_id, parse_zone}
use Rattle.frames.specs.Frame.{order, zeros, version, sized, field, frame}
use Rattle.frames.specs.Machine.{act, step, walk}
use Rattle.locate.specs.Asked.{says}
use Rattle.local_times.specs.Tally.{latest_of}
use Rattle.local_times.specs.Instants.{candidate, in_listing, of_list, in_force_at, tail_candidate, of_tail, behind_list, instants_of}
use Rattle.wall_times.specs.WallTime.{MapsTo}
use Rattle.wall_times.specs.View.{mapping_of, mapping_in}
use Rattle.wall_times.proofs.MapLaws.{map-some}

-- the version and the pool "A", before a zone with that ID
abbrev before : List ℕ → List ℕ
before zone = 0 ∷ 0 ∷ 0 ∷ 0 ∷ 0 ∷ 3 ∷ 1 ∷ 1 ∷ 65 ∷ zone

abbrev mapped : List ℕ → ℤ → Result (ℕ × ℤ × ℤ) Fault
mapped f local = mapping_in f (65 ∷ []) local

module _ (f : List ℕ) (local : ℤ) (r : Result (ℕ × ℤ × ℤ) Fault) where
  meant : mapped f local ≡ r → MapsTo f (65 ∷ []) local r
  meant e = subst (MapsTo f (65 ∷ []) local) e (map-some f (65 ∷ []) local)

-- A zone of one interval to 1970-01-01T00:00Z and a tail: no offset, an hour more from the last Sunday of March to that of October, 01:00Z
abbrev tailed : List ℕ
tailed =
    before
    (1 ∷ 24 ∷ 0 ∷ 2 ∷ 1 ∷ 0 ∷ 0 ∷ 0x30 ∷ 0x30 ∷ 0xE0 ∷ 0x9B ∷ 0xD1 ∷ 0x2A ∷ 1
    ∷ 0x30 ∷ 0 ∷ 0x1C ∷ 10 ∷ 1 ∷ 0x32 ∷ 0 ∷ 0x1C ∷ 3 ∷ 1 ∷ 0x32 ∷ 0x32 ∷ [])

-- a local time by its seconds
abbrev at : ℕ → ℤ
at second = pos (second * 10000000)

-- THE AUTUMN NIGHT, 2024-10-27T01:30: at 00:30Z and at 01:30Z
pub autumn : MapsTo tailed (65 ∷ []) (at 1729992600) (Ok (2, at 1729989000, at 1729992600))
unfolding says biased_of walk iterate step act frame version zeros field order sized any_groups read_groups counted all_strings many ended chars text_sized equal parse_zone after_id after_flag parse_fixed after_fixed_offset zone_of parse_byte parse_name judge_name read_sum candidate instants_of mapping_of latest_of parse_listed after_count after_intervals after_end after_tail_byte behind read_moment from_count parse_interval after_start parse_details after_name after_wall judge_standard in_listing of_list behind_list parse_tailed after_tail parse_tail parse_daylight after_daylight_name parse_savings after_savings parse_standard after_offset after_standard_name parse_rule after_byte parse_month after_month parse_day after_day parse_time after_time byte_ok month_ok day_ok time_ok sum_ok most_day month_length leap_day in_force_at tail_candidate of_tail lookup last_at next_after year_before search_from year_of estimate standard_in daylight_in occurrence subtracted falls_on moved on_or_after on_or_before month_day day_number days_before year_start
autumn = meant tailed (at 1729992600) _ refl

-- THE SPRING GAP, 2024-03-31T01:30
pub spring : MapsTo tailed (65 ∷ []) (at 1711848600) (Err (NoInstant, 0))
unfolding says biased_of walk iterate step act frame version zeros field order sized any_groups read_groups counted all_strings many ended chars text_sized equal parse_zone after_id after_flag parse_fixed after_fixed_offset zone_of parse_byte parse_name judge_name read_sum candidate instants_of mapping_of latest_of parse_listed after_count after_intervals after_end after_tail_byte behind read_moment from_count parse_interval after_start parse_details after_name after_wall judge_standard in_listing of_list behind_list parse_tailed after_tail parse_tail parse_daylight after_daylight_name parse_savings after_savings parse_standard after_offset after_standard_name parse_rule after_byte parse_month after_month parse_day after_day parse_time after_time byte_ok month_ok day_ok time_ok sum_ok most_day month_length leap_day in_force_at tail_candidate of_tail lookup last_at next_after year_before search_from year_of estimate standard_in daylight_in occurrence subtracted falls_on moved on_or_after on_or_before month_day day_number days_before year_start
spring = meant tailed (at 1711848600) _ refl

-- RULES THAT DON'T ALTERNATE: standard time from the Sunday on or after 29 December, an hour more from 1 January on. After 2025-01-01 the next
-- occurrence is again one of daylight, so standard time stays; it is daylight time from 2026-01-01 to 2026-01-04
abbrev skew : List ℕ
skew =
    before
    (1 ∷ 24 ∷ 0 ∷ 2 ∷ 1 ∷ 0 ∷ 0 ∷ 0x30 ∷ 0x30 ∷ 0xE0 ∷ 0x9B ∷ 0xD1 ∷ 0x2A ∷ 1
    ∷ 0x30 ∷ 0 ∷ 0x1E ∷ 12 ∷ 0x3A ∷ 0x30 ∷ 0 ∷ 0 ∷ 1 ∷ 2 ∷ 0x30 ∷ 0x32 ∷ [])

-- 2026-01-04T00:30
pub twice-daylight : MapsTo skew (65 ∷ []) (at 1767486600) (Ok (2, at 1767483000, at 1767486600))
unfolding says biased_of walk iterate step act frame version zeros field order sized any_groups read_groups counted all_strings many ended chars text_sized equal parse_zone after_id after_flag parse_fixed after_fixed_offset zone_of parse_byte parse_name judge_name read_sum candidate instants_of mapping_of latest_of parse_listed after_count after_intervals after_end after_tail_byte behind read_moment from_count parse_interval after_start parse_details after_name after_wall judge_standard in_listing of_list behind_list parse_tailed after_tail parse_tail parse_daylight after_daylight_name parse_savings after_savings parse_standard after_offset after_standard_name parse_rule after_byte parse_month after_month parse_day after_day parse_time after_time byte_ok month_ok day_ok time_ok sum_ok most_day month_length leap_day in_force_at tail_candidate of_tail lookup last_at next_after year_before search_from year_of estimate standard_in daylight_in occurrence subtracted falls_on moved on_or_after on_or_before month_day day_number days_before year_start
twice-daylight = meant skew (at 1767486600) _ refl

-- 2025-01-01T00:30
pub same-again : MapsTo skew (65 ∷ []) (at 1735691400) (Ok (1, at 1735691400, at 1735691400))
unfolding says biased_of walk iterate step act frame version zeros field order sized any_groups read_groups counted all_strings many ended chars text_sized equal parse_zone after_id after_flag parse_fixed after_fixed_offset zone_of parse_byte parse_name judge_name read_sum candidate instants_of mapping_of latest_of parse_listed after_count after_intervals after_end after_tail_byte behind read_moment from_count parse_interval after_start parse_details after_name after_wall judge_standard in_listing of_list behind_list parse_tailed after_tail parse_tail parse_daylight after_daylight_name parse_savings after_savings parse_standard after_offset after_standard_name parse_rule after_byte parse_month after_month parse_day after_day parse_time after_time byte_ok month_ok day_ok time_ok sum_ok most_day month_length leap_day in_force_at tail_candidate of_tail lookup last_at next_after year_before search_from year_of estimate standard_in daylight_in occurrence subtracted falls_on moved on_or_after on_or_before month_day day_number days_before year_start
same-again = meant skew (at 1735691400) _ refl

-- ONE CHANGE, from an hour ahead to none at minute 100,000,000 since 1800: the local time of that number is read an hour before and at the
-- change, an hour later only once
abbrev back : List ℕ
back = before (1 ∷ 0x10 ∷ 0 ∷ 2 ∷ 2 ∷ 0 ∷ 0 ∷ 0x32 ∷ 0x32 ∷ 0x80 ∷ 0xC2 ∷ 0xD7 ∷ 0x2F ∷ 0 ∷ 0x30 ∷ 0x30 ∷ 1 ∷ 0 ∷ [])

pub change : MapsTo back (65 ∷ []) (pos 6353376000000000) (Ok (2, pos 6353340000000000, pos 6353376000000000))
unfolding says biased_of walk iterate step act frame version zeros field order sized any_groups read_groups counted all_strings many ended chars text_sized equal parse_zone after_id after_flag parse_fixed after_fixed_offset zone_of parse_byte parse_name judge_name read_sum candidate instants_of mapping_of latest_of parse_listed after_count after_intervals after_end after_tail_byte behind read_moment from_count parse_interval after_start parse_details after_name after_wall judge_standard in_listing of_list behind_list
change = meant back (pos 6353376000000000) _ refl

pub after-change : MapsTo back (65 ∷ []) (pos 6353412000000000) (Ok (1, pos 6353412000000000, pos 6353412000000000))
unfolding says biased_of walk iterate step act frame version zeros field order sized any_groups read_groups counted all_strings many ended chars text_sized equal parse_zone after_id after_flag parse_fixed after_fixed_offset zone_of parse_byte parse_name judge_name read_sum candidate instants_of mapping_of latest_of parse_listed after_count after_intervals after_end after_tail_byte behind read_moment from_count parse_interval after_start parse_details after_name after_wall judge_standard in_listing of_list behind_list
after-change = meant back (pos 6353412000000000) _ refl

-- THREE: two hours ahead, then one and none from 90 and 30 minutes before minute 100,000,000 since 1800 on
abbrev three : List ℕ
three =
    before
    (1 ∷ 0x17 ∷ 0 ∷ 2 ∷ 3 ∷ 0 ∷ 0 ∷ 0x34 ∷ 0x34 ∷ 0xA6 ∷ 0xC1 ∷ 0xD7 ∷ 0x2F ∷ 0 ∷ 0x32 ∷ 0x32 ∷ 0xE2 ∷ 0xC1 ∷ 0xD7 ∷ 0x2F ∷ 0 ∷ 0x30 ∷ 0x30 ∷ 1 ∷ 0 ∷ [])

pub three-instants : MapsTo three (65 ∷ []) (pos 6353376000000000) (Ok (3, pos 6353304000000000, pos 6353376000000000))
unfolding says biased_of walk iterate step act frame version zeros field order sized any_groups read_groups counted all_strings many ended chars text_sized equal parse_zone after_id after_flag parse_fixed after_fixed_offset zone_of parse_byte parse_name judge_name read_sum candidate instants_of mapping_of latest_of parse_listed after_count after_intervals after_end after_tail_byte behind read_moment from_count parse_interval after_start parse_details after_name after_wall judge_standard in_listing of_list behind_list
three-instants = meant three (pos 6353376000000000) _ refl

-- THE LAST INSTANT OF 9999, an hour ahead: the local time is past 9999
abbrev ahead : List ℕ
ahead = before (1 ∷ 4 ∷ 0 ∷ 1 ∷ 0x32 ∷ 0 ∷ [])

pub last-instant : MapsTo ahead (65 ∷ []) (pos 2534023043999999999) (Ok (1, pos 2534023007999999999, pos 2534023007999999999))
unfolding says biased_of walk iterate step act frame version zeros field order sized any_groups read_groups counted all_strings many ended chars text_sized equal parse_zone after_id after_flag parse_fixed after_fixed_offset zone_of parse_byte parse_name judge_name read_sum candidate instants_of mapping_of latest_of
last-instant = meant ahead (pos 2534023043999999999) _ refl

-- in the first hour of year 1 by that clock, and at the least 64-bit number, there is none
pub before-first : MapsTo ahead (65 ∷ []) (negsuc 621355967999999999) (Err (NoInstant, 0))
unfolding says biased_of walk iterate step act frame version zeros field order sized any_groups read_groups counted all_strings many ended chars text_sized equal parse_zone after_id after_flag parse_fixed after_fixed_offset zone_of parse_byte parse_name judge_name read_sum candidate instants_of mapping_of latest_of
before-first = meant ahead (negsuc 621355967999999999) _ refl

pub least-number : MapsTo ahead (65 ∷ []) (negsuc 9223372036854775807) (Err (NoInstant, 0))
unfolding says biased_of walk iterate step act frame version zeros field order sized any_groups read_groups counted all_strings many ended chars text_sized equal parse_zone after_id after_flag parse_fixed after_fixed_offset zone_of parse_byte parse_name judge_name read_sum candidate instants_of mapping_of latest_of
least-number = meant ahead (negsuc 9223372036854775807) _ refl
