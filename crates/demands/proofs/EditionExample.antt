-- Worked questions under both editions, computed. Assumes nothing.
use Rattle.answers.specs.declared.Found.{Found}
use Rattle.base.specs.Coded.{Fault}
use Rattle.std.specs.Prelude.{Err, Ok, Result}
use Rattle.base.specs.declared.Refusal.TheVariants.{BadData, BadText}
use mathlib.Core.Path.{◌≡◌, refl}
use mathlib.Core.List.{List, [], ◌∷◌}
use Prim.Native.Nat.{ℕ}
use lib.IntN.{pos, negsuc}
use Rattle.base.specs.Run.{iterate}
use Rattle.base.specs.Parsed.{parse_byte, ended, many, behind}
use Rattle.base.specs.Equal.{equal}
use Rattle.signed.specs.Instant.{biased_of}
use Rattle.counts.specs.Groups.{any_groups, read_groups}
use Rattle.offsets.specs.Offset.{read_sum}
use Rattle.transitions.specs.Transition.{from_count, read_moment}
use Rattle.utf8.specs.Utf8.{chars}
use Rattle.texts.specs.Text.{text_sized}
use Rattle.pool.specs.Pool.{all_strings, counted}
use Rattle.pool.specs.Index.{read_starts, starts_in}
use Rattle.places.specs.Name.{judge_name, parse_name}
use Rattle.intervals.specs.Interval.{judge_standard, after_wall, after_name, parse_details, after_start, parse_interval}
use Rattle.zones.specs.Parse.{zone_of, after_tail_byte, after_end, after_intervals, after_count, parse_listed}
use Rattle.zones.specs.Parse.{after_fixed_offset, parse_fixed, after_flag, after_id, parse_zone}
use Rattle.zones.specs.Editions.{nameless, under}
use Rattle.zones.specs.Lookup.{holding, in_list, behind_list, fixed_name_of, in_body}
use Rattle.zones.specs.declared.Edition.{Edition}
use Rattle.zones.specs.declared.Edition.TheVariants.{One, Two}
use Rattle.ids.specs.Ids.{among}
use Rattle.aliases.specs.Dictionary.{keys, target_of}
use Rattle.aliases.specs.Field.{after_key, parse_entry, parse_entries, all_entries, parse_aliases}
use Rattle.alias_lookup.specs.Lookup.{lookup}
use Rattle.frames.specs.Frame.{order, zeros, version, sized, field, frame}
use Rattle.frames.specs.Machine.{act, step, walk}
use Rattle.locate.specs.Asked.{says}
use Rattle.questions.specs.Question.{ask}
use Rattle.named_fields.specs.Named.{zone_in, zones_of, says as named_says, ask_named}
use Rattle.answers.specs.declared.Mark.TheVariants.{All}

-- offset zero at all of time, with the name of one byte at a place
abbrev utc : ℕ → Result Found Fault
utc place = Ok (record {
  wall = pos 0;
  savings = pos 0;
  standard = pos 0;
  name = place;
  length = 1;
  start = negsuc 9223372036854775807;
  end = pos 9223372036854775807;
})

-- the pool "A", and a zone "A" with the data d
abbrev one : ℕ → List ℕ → List ℕ
one size d = 0 ∷ 0 ∷ 0 ∷ 0 ∷ 0 ∷ 3 ∷ 1 ∷ 1 ∷ 65 ∷ 1 ∷ size ∷ 0 ∷ d

-- the pool "A" and a second string, and a zone "A" with the data d
abbrev two : ℕ → ℕ → List ℕ → List ℕ
two c size d = 0 ∷ 0 ∷ 0 ∷ 0 ∷ 0 ∷ 5 ∷ 2 ∷ 1 ∷ 65 ∷ 1 ∷ c ∷ 1 ∷ size ∷ 0 ∷ d

-- the pool "A", "B", "C", a fixed zone "A" named "C", and "B" for "A"
abbrev aliased : List ℕ
aliased = 0 ∷ 0 ∷ 0 ∷ 0 ∷ 0 ∷ 7 ∷ 3 ∷ 1 ∷ 65 ∷ 1 ∷ 66 ∷ 1 ∷ 67 ∷ 1 ∷ 4 ∷ 0 ∷ 1 ∷ 48 ∷ 2 ∷ 3 ∷ 3 ∷ 1 ∷ 1 ∷ 0 ∷ []

abbrev asked : Edition → List ℕ → Result Found Fault
asked ed f = ask f (65 ∷ []) (pos 0) All ed

-- a name past the pool, and one with a byte behind it, are faults under both; a listed zone keeps its interval's name
pub alike :
    asked One (one 4 (1 ∷ 48 ∷ 5 ∷ [])) ∷ asked Two (one 4 (1 ∷ 48 ∷ 5 ∷ [])) ∷ asked One (one 5 (1 ∷ 48 ∷ 0 ∷ 0 ∷ [])) ∷ asked Two (one 5 (1 ∷ 48 ∷ 0 ∷ 0 ∷ []))
    ∷ asked One (two 66 9 (2 ∷ 1 ∷ 0 ∷ 1 ∷ 48 ∷ 48 ∷ 1 ∷ 0 ∷ [])) ∷ asked Two (two 66 9 (2 ∷ 1 ∷ 0 ∷ 1 ∷ 48 ∷ 48 ∷ 1 ∷ 0 ∷ [])) ∷ []
    ≡ Err (BadText, 9) ∷ Err (BadText, 9) ∷ Err (BadData, 9) ∷ Err (BadData, 9) ∷ utc 10 ∷ utc 10 ∷ []
unfolding ask ask_named says named_says biased_of walk iterate step act frame version zeros field order sized any_groups read_groups many counted all_strings ended chars text_sized equal read_starts starts_in parse_zone after_id after_flag parse_fixed after_fixed_offset zone_of parse_byte parse_name judge_name read_sum parse_listed after_count after_intervals after_end after_tail_byte behind read_moment from_count parse_interval after_start parse_details after_name after_wall judge_standard holding in_list behind_list fixed_name_of in_body nameless under zone_in zones_of keys target_of lookup after_key parse_entry parse_entries all_entries parse_aliases among
alike = refl

-- the ID's own string, also where the name has equal bytes; through an alias, that of the target
pub apart :
    asked One (two 65 4 (1 ∷ 48 ∷ 1 ∷ [])) ∷ asked Two (two 65 4 (1 ∷ 48 ∷ 1 ∷ []))
    ∷ ask_named aliased (66 ∷ []) (pos 0) All One ∷ ask_named aliased (66 ∷ []) (pos 0) All Two ∷ []
    ≡ utc 8 ∷ utc 10 ∷ utc 8 ∷ utc 12 ∷ []
unfolding ask ask_named says named_says biased_of walk iterate step act frame version zeros field order sized any_groups read_groups many counted all_strings ended chars text_sized equal read_starts starts_in parse_zone after_id after_flag parse_fixed after_fixed_offset zone_of parse_byte parse_name judge_name read_sum parse_listed after_count after_intervals after_end after_tail_byte behind read_moment from_count parse_interval after_start parse_details after_name after_wall judge_standard holding in_list behind_list fixed_name_of in_body nameless under zone_in zones_of keys target_of lookup after_key parse_entry parse_entries all_entries parse_aliases among
apart = refl
