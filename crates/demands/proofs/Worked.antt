-- The twelve worked cases of document 01 (specs/Cases.antt) under one claim: the checker computes each from the definitions. Assumes nothing.
use mathlib.Core.Path.{◌≡◌, refl}
use mathlib.Core.List.{map}
use Rattle.base.specs.Parsed.{parse_byte, ended, many}
use Rattle.base.specs.Run.{iterate}
use Rattle.signed.specs.Instant.{biased_of}
use Rattle.signed.specs.Zigzag.{unzigzag_of}
use Rattle.counts.specs.Groups.{any_groups, read_groups, write_groups}
use Rattle.counts.specs.Fixed.{fixed_from}
use Rattle.offsets.specs.Offset.{read_sum}
use Rattle.transitions.specs.Transition.{from_count, read_moment}
use Rattle.utf8.specs.Utf8.{chars}
use Rattle.texts.specs.Text.{text_sized}
use Rattle.calendar.specs.Calendar.{leap_day, month_length, days_before, year_start, day_number}
use Rattle.rules.specs.Rules.{most_day}
use Rattle.occurrences.specs.Rules.{month_day, on_or_after, on_or_before, moved, falls_on, occurrence, subtracted}
use Rattle.rules.specs.Fields.{byte_ok, month_ok, day_ok, time_ok}
use Rattle.tails.specs.Tail.{after_time, parse_time, after_day, parse_day, after_month, parse_month, after_byte, parse_rule}
use Rattle.pool.specs.Pool.{all_strings, counted}
use Rattle.pool.specs.Index.{read_starts, starts_in}
use Rattle.base.specs.Equal.{equal}
use Rattle.places.specs.Name.{judge_name, parse_name}
use Rattle.zones.specs.Editions.{under}
use Rattle.zones.specs.Lookup.{fixed_name_of, in_body}
use Rattle.zones.specs.Parse.{zone_of, after_fixed_offset, parse_fixed, after_flag, after_id, parse_zone}
use Rattle.frames.specs.Frame.{order, zeros, version, sized, field, frame}
use Rattle.frames.specs.Machine.{act, step, walk}
use Rattle.locate.specs.Asked.{says}
use Rattle.questions.specs.Question.{ask}
use Rattle.demands.specs.Cases.{Case, given, cases}

pub worked : map (λ (c : Case). given c.asked) cases ≡ map (λ (c : Case). c.expected) cases
unfolding biased_of unzigzag_of any_groups read_groups write_groups fixed_from read_sum from_count read_moment chars text_sized leap_day month_length days_before year_start day_number most_day month_day on_or_after on_or_before moved falls_on occurrence subtracted byte_ok month_ok day_ok time_ok after_time parse_time after_day parse_day after_month parse_month after_byte parse_rule all_strings counted read_starts starts_in equal judge_name parse_name fixed_name_of in_body under zone_of after_fixed_offset parse_fixed after_flag after_id parse_zone order zeros version sized field frame act step walk says ask parse_byte ended many iterate
worked = refl
