-- A file that meets Ask 12's premise, and all answers of its zones from first to last: a fixed zone; a list, whose interval before year 1 has no
-- instant and isn't met; a tail whose rules alternate; and one whose rules don't. Assumes nothing.
use mathlib.Core.Path.{◌≡◌, refl}
use mathlib.Core.List.{List, [], ◌∷◌, map}
use Prim.Native.Nat.{ℕ, ◌+◌, ◌*◌}
use lib.IntN.{ℤ, pos, negsuc}
use lib.ListN.{drop, take}
use Rattle.base.specs.Run.{iterate}
use Rattle.base.specs.Parsed.{parse_byte, ended, many, behind}
use Rattle.signed.specs.Instant.{biased_of}
use Rattle.counts.specs.Fixed.{fixed_from}
use Rattle.counts.specs.Groups.{any_groups, read_groups}
use Rattle.offsets.specs.Offset.{read_sum}
use Rattle.transitions.specs.Transition.{from_count, read_moment}
use Rattle.utf8.specs.Utf8.{chars}
use Rattle.texts.specs.Text.{text_sized}
use Rattle.calendar.specs.Calendar.{leap_day, month_length, days_before, year_start, day_number, estimate, year_of}
use Rattle.rules.specs.Rules.{most_day}
use Rattle.occurrences.specs.Rules.{month_day, on_or_after, on_or_before, moved, falls_on, occurrence, subtracted}
use Rattle.rules.specs.Fields.{byte_ok, month_ok, day_ok, time_ok, sum_ok}
use Rattle.recurrence.specs.Search.{search_from, year_before, last_at, next_after}
use Rattle.recurrence.specs.Tails.{standard_in, daylight_in, lookup}
use Rattle.pool.specs.Pool.{all_strings, counted}
use Rattle.pool.specs.Index.{read_starts, starts_in}
use Rattle.base.specs.Equal.{equal}
use Rattle.places.specs.Name.{judge_name, parse_name}
use Rattle.intervals.specs.Interval.{judge_standard, after_wall, after_name, parse_details, after_start, parse_interval}
use Rattle.tails.specs.Tail.{after_time, parse_time, after_day, parse_day, after_month, parse_month, after_byte, parse_rule}
use Rattle.tails.specs.Tail.{after_standard_name, after_offset, parse_standard, after_savings, parse_savings, after_daylight_name, parse_daylight, parse_tail}
use Rattle.zones.specs.Parse.{zone_of, after_tail, parse_tailed, after_tail_byte, after_end, after_intervals, after_count, parse_listed}
use Rattle.zones.specs.Parse.{after_fixed_offset, parse_fixed, after_flag, after_id, parse_zone}
use Rattle.zones.specs.Editions.{nameless, under}
use Rattle.zones.specs.declared.Edition.{Edition}
use Rattle.zones.specs.declared.Edition.TheVariants.{One, Two}
use Rattle.zones.specs.Lookup.{holding, in_list, in_tail, behind_list, fixed_name_of, in_body}
use Rattle.ids.specs.Ids.{among}
use Rattle.frames.specs.Frame.{order, zeros, version, sized, field, frame, Field}
use Rattle.frames.specs.Machine.{act, step, walk}
use Rattle.frames.specs.Fields.{scan, listing}
use Rattle.field_checks.specs.Check.{pool_kept, new_id, zone_kept, judged, concluded, conclusion, WellFormed}
use Rattle.field_checks.proofs.WellFormedLaws.{good-well-formed}
use Rattle.locate.specs.Asked.{says}
use Rattle.questions.specs.Question.{ask}
use Rattle.answers.specs.Answers.{name_of}
use Rattle.answers.specs.declared.Found.{Found}
use Rattle.answers.specs.declared.Mark.TheVariants.{All}
use Rattle.renewals.specs.Renewal.{first_tick, no_end, Renewed}
use Rattle.renewals.specs.Gapless.{Gapless}
use Rattle.renewals.specs.Walk.{answers_from}
use Rattle.renewals.proofs.SameLaws.{first-in-range}
use Rattle.renewals.proofs.WalkLaws.{answers-renewed}
use Rattle.renewals.proofs.NoGap.{no_gap}

-- the pool "F", "L", "A", "N", "S", "D", and a zone of each of the first four
abbrev pub file : List ℕ
file =
    0 ∷ 0 ∷ 0 ∷ 0
    ∷ 0 ∷ 13 ∷ 6 ∷ 1 ∷ 70 ∷ 1 ∷ 76 ∷ 1 ∷ 65 ∷ 1 ∷ 78 ∷ 1 ∷ 83 ∷ 1 ∷ 68
    -- "F": fixed, offset zero, "S"
    ∷ 1 ∷ 4 ∷ 0 ∷ 1 ∷ 0x30 ∷ 4
    -- "L": "S" from start of time, "D" from the first tick of year 1, "S" from 1970-01-01
    ∷ 1 ∷ 28 ∷ 1 ∷ 2 ∷ 3 ∷ 0 ∷ 4 ∷ 0x32 ∷ 0x30
    ∷ 2 ∷ 0xF7 ∷ 0x60 ∷ 0x80 ∷ 0x0A ∷ 0x08 ∷ 0x4A ∷ 0x80 ∷ 0x00 ∷ 5 ∷ 0x34 ∷ 0x32
    ∷ 0xE0 ∷ 0x9B ∷ 0xD1 ∷ 0x2A ∷ 4 ∷ 0x32 ∷ 0x30 ∷ 1 ∷ 0
    -- "A": "S" up to 9998-01-01, then a tail: "S" from the last Sunday of October, "D" from the last Sunday of March
    ∷ 1 ∷ 29 ∷ 2 ∷ 2 ∷ 1 ∷ 0 ∷ 4 ∷ 0x32 ∷ 0x30 ∷ 2 ∷ 0x23 ∷ 0x28 ∷ 0x6A ∷ 0xDD ∷ 0x0A ∷ 0xF4 ∷ 0x40 ∷ 0x00
    ∷ 1 ∷ 0x32 ∷ 4 ∷ 0x1C ∷ 10 ∷ 1 ∷ 0x32 ∷ 5 ∷ 0x1C ∷ 3 ∷ 1 ∷ 0x32 ∷ 0x32
    -- "N": "S" up to 9996-12-30, then a tail: "D" from 1 January, "S" from the Sunday on or after 29 December, which is up to 4 January
    ∷ 1 ∷ 29 ∷ 3 ∷ 2 ∷ 1 ∷ 0 ∷ 4 ∷ 0x32 ∷ 0x30 ∷ 2 ∷ 0x23 ∷ 0x27 ∷ 0x4A ∷ 0x79 ∷ 0x3D ∷ 0x5A ∷ 0x00 ∷ 0x00
    ∷ 1 ∷ 0x32 ∷ 4 ∷ 0x1E ∷ 12 ∷ 58 ∷ 0x30 ∷ 5 ∷ 0 ∷ 1 ∷ 2 ∷ 0x30 ∷ 0x32 ∷ []

pub well-formed : WellFormed file
unfolding fixed_from biased_of conclusion walk iterate step act frame version zeros field order sized any_groups read_groups many counted all_strings ended concluded pool_kept judged chars text_sized zone_kept new_id among equal parse_zone after_id after_flag parse_fixed after_fixed_offset zone_of parse_byte parse_name judge_name read_sum parse_listed after_count after_intervals after_end after_tail_byte parse_tailed after_tail behind read_moment from_count parse_interval after_start parse_details after_name after_wall judge_standard parse_tail parse_daylight after_daylight_name parse_savings after_savings parse_standard after_offset after_standard_name parse_rule after_byte parse_month after_month parse_day after_day parse_time after_time byte_ok month_ok day_ok time_ok sum_ok most_day month_length leap_day
well-formed = good-well-formed file refl

abbrev part : ℕ → ℕ → ℕ → Field
part id place size = record { place = place; id = id; start = place + 2; past = place + 2 + size; body = take size (drop (place + 2) file) }

abbrev pool : Field
pool = part 0 4 13

abbrev zone-f : Field
zone-f = part 1 19 4

abbrev zone-l : Field
zone-l = part 1 25 28

abbrev zone-a : Field
zone-a = part 1 55 29

abbrev zone-n : Field
zone-n = part 1 86 29

pub f-gapless : Gapless file zone-f
unfolding listing scan frame version zeros field sized order any_groups
f-gapless = no_gap file well-formed zone-f (record { before = pool ∷ []; behind = zone-l ∷ zone-a ∷ zone-n ∷ []; splits = refl; is-zone = refl })

pub l-gapless : Gapless file zone-l
unfolding listing scan frame version zeros field sized order any_groups
l-gapless = no_gap file well-formed zone-l (record { before = pool ∷ zone-f ∷ []; behind = zone-a ∷ zone-n ∷ []; splits = refl; is-zone = refl })

pub a-gapless : Gapless file zone-a
unfolding listing scan frame version zeros field sized order any_groups
a-gapless = no_gap file well-formed zone-a (record { before = pool ∷ zone-f ∷ zone-l ∷ []; behind = zone-n ∷ []; splits = refl; is-zone = refl })

pub n-gapless : Gapless file zone-n
unfolding listing scan frame version zeros field sized order any_groups
n-gapless = no_gap file well-formed zone-n (record { before = pool ∷ zone-f ∷ zone-l ∷ zone-a ∷ []; behind = []; splits = refl; is-zone = refl })

-- an answer's wall offset, name, start and end
pub data Row : Type 0 where
  row : ℤ → List ℕ → ℤ → ℤ → Row

abbrev row_of : Found → Row
row_of x = row x.wall (name_of file x) x.start x.end

-- all answers of the zone with this ID from first to last, under an edition; the question's mark makes no difference
abbrev walked : Edition → ℕ → List Row
walked ed id = map row_of (answers_from 9 (λ z. ask file (id ∷ []) z All ed) first_tick)

-- ticks of a Unix second
abbrev at : ℕ → ℤ
at second = pos (second * 10000000)

abbrev S : ℤ → ℤ → Row
S a b = row (pos 3600000) (83 ∷ []) a b

abbrev D : ℤ → ℤ → Row
D a b = row (pos 7200000) (68 ∷ []) a b

abbrev start : ℤ
start = negsuc 9223372036854775807

pub fixed-walk : walked Two 70 ≡ row (pos 0) (83 ∷ []) start no_end ∷ []
unfolding answers_from fixed_from ask says biased_of walk iterate step act frame version zeros field order sized any_groups read_groups many counted all_strings ended chars text_sized equal read_starts starts_in parse_zone after_id after_flag parse_fixed after_fixed_offset zone_of parse_byte parse_name judge_name read_sum parse_listed after_count after_intervals after_end after_tail_byte parse_tailed after_tail behind read_moment from_count parse_interval after_start parse_details after_name after_wall judge_standard parse_tail parse_daylight after_daylight_name parse_savings after_savings parse_standard after_offset after_standard_name parse_rule after_byte parse_month after_month parse_day after_day parse_time after_time byte_ok month_ok day_ok time_ok sum_ok most_day month_length leap_day holding in_list in_tail behind_list under nameless fixed_name_of in_body lookup last_at next_after year_before search_from year_of estimate standard_in daylight_in occurrence subtracted falls_on moved on_or_after on_or_before month_day day_number days_before year_start
fixed-walk = refl

-- under edition 1 it shows its ID
pub fixed-walk-1 : walked One 70 ≡ row (pos 0) (70 ∷ []) start no_end ∷ []
unfolding answers_from fixed_from ask says biased_of walk iterate step act frame version zeros field order sized any_groups read_groups many counted all_strings ended chars text_sized equal read_starts starts_in parse_zone after_id after_flag parse_fixed after_fixed_offset zone_of parse_byte parse_name judge_name read_sum parse_listed after_count after_intervals after_end after_tail_byte parse_tailed after_tail behind read_moment from_count parse_interval after_start parse_details after_name after_wall judge_standard parse_tail parse_daylight after_daylight_name parse_savings after_savings parse_standard after_offset after_standard_name parse_rule after_byte parse_month after_month parse_day after_day parse_time after_time byte_ok month_ok day_ok time_ok sum_ok most_day month_length leap_day holding in_list in_tail behind_list under nameless fixed_name_of in_body lookup last_at next_after year_before search_from year_of estimate standard_in daylight_in occurrence subtracted falls_on moved on_or_after on_or_before month_day day_number days_before year_start
fixed-walk-1 = refl

pub list-walk : walked Two 76 ≡ D first_tick (at 0) ∷ S (at 0) no_end ∷ []
unfolding answers_from fixed_from ask says biased_of walk iterate step act frame version zeros field order sized any_groups read_groups many counted all_strings ended chars text_sized equal read_starts starts_in parse_zone after_id after_flag parse_fixed after_fixed_offset zone_of parse_byte parse_name judge_name read_sum parse_listed after_count after_intervals after_end after_tail_byte parse_tailed after_tail behind read_moment from_count parse_interval after_start parse_details after_name after_wall judge_standard parse_tail parse_daylight after_daylight_name parse_savings after_savings parse_standard after_offset after_standard_name parse_rule after_byte parse_month after_month parse_day after_day parse_time after_time byte_ok month_ok day_ok time_ok sum_ok most_day month_length leap_day holding in_list in_tail behind_list under nameless fixed_name_of in_body lookup last_at next_after year_before search_from year_of estimate standard_in daylight_in occurrence subtracted falls_on moved on_or_after on_or_before month_day day_number days_before year_start
list-walk = refl

-- 9998-03-29, 9998-10-25, 9999-03-28 and 9999-10-31, 01:00Z
pub alternating-walk :
    walked Two 65
    ≡ S start (at 253339228800)
    ∷ S (at 253339228800) (at 253346749200)
    ∷ D (at 253346749200) (at 253364893200)
    ∷ S (at 253364893200) (at 253378198800)
    ∷ D (at 253378198800) (at 253396947600)
    ∷ S (at 253396947600) no_end
    ∷ []
unfolding answers_from fixed_from ask says biased_of walk iterate step act frame version zeros field order sized any_groups read_groups many counted all_strings ended chars text_sized equal read_starts starts_in parse_zone after_id after_flag parse_fixed after_fixed_offset zone_of parse_byte parse_name judge_name read_sum parse_listed after_count after_intervals after_end after_tail_byte parse_tailed after_tail behind read_moment from_count parse_interval after_start parse_details after_name after_wall judge_standard parse_tail parse_daylight after_daylight_name parse_savings after_savings parse_standard after_offset after_standard_name parse_rule after_byte parse_month after_month parse_day after_day parse_time after_time byte_ok month_ok day_ok time_ok sum_ok most_day month_length leap_day holding in_list in_tail behind_list under nameless fixed_name_of in_body lookup last_at next_after year_before search_from year_of estimate standard_in daylight_in occurrence subtracted falls_on moved on_or_after on_or_before month_day day_number days_before year_start
alternating-walk = refl

-- 9997-01-01, 9998-01-01: daylight occurs twice in a row, and standard time goes on; then 9998-01-04, 9999-01-01 and 9999-01-03
pub odd-walk :
    walked Two 78
    ≡ S start (at 253307520000)
    ∷ S (at 253307520000) (at 253307692800)
    ∷ S (at 253307692800) (at 253339228800)
    ∷ D (at 253339228800) (at 253339488000)
    ∷ S (at 253339488000) (at 253370764800)
    ∷ D (at 253370764800) (at 253370937600)
    ∷ S (at 253370937600) no_end
    ∷ []
unfolding answers_from fixed_from ask says biased_of walk iterate step act frame version zeros field order sized any_groups read_groups many counted all_strings ended chars text_sized equal read_starts starts_in parse_zone after_id after_flag parse_fixed after_fixed_offset zone_of parse_byte parse_name judge_name read_sum parse_listed after_count after_intervals after_end after_tail_byte parse_tailed after_tail behind read_moment from_count parse_interval after_start parse_details after_name after_wall judge_standard parse_tail parse_daylight after_daylight_name parse_savings after_savings parse_standard after_offset after_standard_name parse_rule after_byte parse_month after_month parse_day after_day parse_time after_time byte_ok month_ok day_ok time_ok sum_ok most_day month_length leap_day holding in_list in_tail behind_list under nameless fixed_name_of in_body lookup last_at next_after year_before search_from year_of estimate standard_in daylight_in occurrence subtracted falls_on moved on_or_after on_or_before month_day day_number days_before year_start
odd-walk = refl

-- these are all: no other answers are met from year 1 on (renewed-one)
pub odd-renewed : Renewed (λ z. ask file (78 ∷ []) z All Two) first_tick (answers_from 9 (λ z. ask file (78 ∷ []) z All Two) first_tick)
unfolding answers_from fixed_from ask says biased_of walk iterate step act frame version zeros field order sized any_groups read_groups many counted all_strings ended chars text_sized equal read_starts starts_in parse_zone after_id after_flag parse_fixed after_fixed_offset zone_of parse_byte parse_name judge_name read_sum parse_listed after_count after_intervals after_end after_tail_byte parse_tailed after_tail behind read_moment from_count parse_interval after_start parse_details after_name after_wall judge_standard parse_tail parse_daylight after_daylight_name parse_savings after_savings parse_standard after_offset after_standard_name parse_rule after_byte parse_month after_month parse_day after_day parse_time after_time byte_ok month_ok day_ok time_ok sum_ok most_day month_length leap_day holding in_list in_tail behind_list under nameless fixed_name_of in_body lookup last_at next_after year_before search_from year_of estimate standard_in daylight_in occurrence subtracted falls_on moved on_or_after on_or_before month_day day_number days_before year_start
odd-renewed = answers-renewed (λ z. ask file (78 ∷ []) z All Two) 9 first_tick first-in-range refl
