-- Worked zones, computed: a fixed one with a name, one without, and a tailed one, with each pool number one larger. Assumes nothing.
use mathlib.Core.Path.{◌≡◌, refl}
use mathlib.Core.List.{List, [], ◌∷◌}
use Prim.Native.Nat.{ℕ, ◌+◌}
use Rattle.base.specs.Parsed.{Parsed, got, bad, parse_byte, ended, many, behind}
use Rattle.counts.specs.Groups.{read_groups, write_groups}
use Rattle.counts.specs.Fixed.{fixed_from}
use Rattle.offsets.specs.Offset.{read_sum}
use Rattle.transitions.specs.Transition.{read_moment, from_count}
use Rattle.places.specs.Name.{judge_name, parse_name}
use Rattle.calendar.specs.Calendar.{leap_day, month_length}
use Rattle.rules.specs.Rules.{most_day}
use Rattle.rules.specs.Fields.{byte_ok, month_ok, day_ok, time_ok, sum_ok}
use Rattle.intervals.specs.Interval.{judge_standard, after_wall, after_name, parse_details, after_start, parse_interval}
use Rattle.tails.specs.Tail.{after_time, parse_time, after_day, parse_day, after_month, parse_month, after_byte, parse_rule, after_standard_name, after_offset, parse_standard, after_savings, parse_savings, after_daylight_name, parse_daylight, parse_tail}
use Rattle.zones.specs.Content.{absent, present, fixed, Zone}
use Rattle.zones.specs.Parse.{zone_of, after_tail, parse_tailed, after_tail_byte, after_end, after_intervals, after_count, parse_listed, after_fixed_offset, parse_fixed, after_flag, after_id, parse_zone}
use Rattle.mentions.specs.Walk.{behind_rule, behind_end, behind_start, behind_details, behind_offset, behind_interval_count, behind_id, ahead_of, first_stage}
use Rattle.mentions.specs.Content.{parse_mention, content_from, print_mentions, print, renumbered}
use Rattle.renumbered_zones.specs.Renamed.{renamed_intervals, renamed_ending, renamed_body, renamed_zone, interval_names, ending_names, body_names, names_of}

-- two intervals and a tail: its ID, two interval names, the tail's two names
abbrev tailed : List ℕ
tailed =
    0 ∷ 2 ∷ 2 ∷ 0 ∷ 3 ∷ 48 ∷ 48 ∷ 128 ∷ 194 ∷ 215 ∷ 47 ∷ 127 ∷ 50 ∷ 48 ∷ 128 ∷ 1 ∷ 1 ∷ 50 ∷ 4 ∷ 28 ∷ 10 ∷ 2 ∷ 50 ∷ 5 ∷ 28 ∷ 3 ∷ 2 ∷ 50 ∷ 50 ∷ []

abbrev more : ℕ → ℕ
more k = k + 1

abbrev names_in : Parsed Zone → List ℕ
names_in (got z r) = names_of z
names_in (bad n) = []

abbrev renamed : Parsed Zone → Parsed Zone
renamed (got z r) = got (renamed_zone more z) r
renamed (bad n) = bad n

pub fixed-worked : parse_zone 4 (renumbered more 1 (0 ∷ 1 ∷ 48 ∷ 2 ∷ [])) ≡ got (record { id = 1; body = fixed 86400000 (present 3) }) []
unfolding parse_zone after_id after_flag parse_fixed after_fixed_offset zone_of ended parse_name judge_name parse_byte read_groups write_groups read_sum behind_offset behind_id ahead_of first_stage parse_mention content_from print_mentions print
fixed-worked = refl

pub nameless-worked : parse_zone 4 (renumbered more 1 (2 ∷ 1 ∷ 48 ∷ [])) ≡ got (record { id = 3; body = fixed 86400000 absent }) []
unfolding parse_zone after_id after_flag parse_fixed after_fixed_offset zone_of ended parse_name judge_name parse_byte read_groups write_groups read_sum behind_offset behind_id ahead_of first_stage parse_mention content_from print_mentions print
nameless-worked = refl

pub tailed-names : names_in (parse_zone 128 tailed) ≡ 0 ∷ 3 ∷ 127 ∷ 4 ∷ 5 ∷ []
unfolding parse_zone after_id after_flag parse_listed after_count after_intervals after_end after_tail_byte parse_tailed after_tail zone_of ended many behind parse_interval after_start parse_details after_name after_wall judge_standard parse_tail parse_standard after_offset after_standard_name parse_daylight after_daylight_name parse_savings after_savings byte_ok month_ok day_ok time_ok sum_ok most_day month_length leap_day parse_rule after_byte parse_month after_month parse_day after_day parse_time after_time parse_name judge_name parse_byte read_groups fixed_from read_sum read_moment from_count interval_names ending_names body_names
tailed-names = refl

pub tailed-worked : parse_zone 129 (renumbered more 1 tailed) ≡ renamed (parse_zone 128 tailed)
unfolding parse_zone after_id after_flag parse_listed after_count after_intervals after_end after_tail_byte parse_tailed after_tail zone_of ended many behind parse_interval after_start parse_details after_name after_wall judge_standard parse_tail parse_standard after_offset after_standard_name parse_daylight after_daylight_name parse_savings after_savings byte_ok month_ok day_ok time_ok sum_ok most_day month_length leap_day parse_rule after_byte parse_month after_month parse_day after_day parse_time after_time parse_name judge_name parse_byte read_groups fixed_from read_sum read_moment from_count behind_rule behind_end behind_start behind_details behind_interval_count behind_id ahead_of first_stage parse_mention content_from write_groups print_mentions print renamed_intervals renamed_ending renamed_body
tailed-worked = refl
