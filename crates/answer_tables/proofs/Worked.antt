-- 01's "One whole file": its zone, the table of its answers, and the questions over it. Assumes nothing.
use Rattle.std.specs.Prelude.{Ok}
use mathlib.Core.Path.{◌≡◌, refl}
use mathlib.Core.List.{List, [], ◌∷◌}
use Prim.Native.Nat.{ℕ}
use lib.IntN.{ℤ, pos, negsuc}
use lib.ListN.{take}
use Rattle.base.specs.Run.{iterate}
use Rattle.base.specs.Parsed.{parse_byte, ended, many}
use Rattle.base.specs.Equal.{equal}
use Rattle.signed.specs.Instant.{biased_of}
use Rattle.counts.specs.Groups.{any_groups, read_groups}
use Rattle.offsets.specs.Offset.{read_sum}
use Rattle.utf8.specs.Utf8.{chars}
use Rattle.texts.specs.Text.{text_sized}
use Rattle.pool.specs.Pool.{all_strings, counted}
use Rattle.pool.specs.Index.{read_starts, starts_in, room_in}
use Rattle.places.specs.Name.{judge_name, parse_name}
use Rattle.string_search.specs.Search.{judge_length, parse_string, nth_string, string_numbered, string_span}
use Rattle.location_lookup.specs.Location.{lent_part, text_in}
use Rattle.zones.specs.Parse.{zone_of, after_fixed_offset, parse_fixed, after_flag, after_id, parse_zone}
use Rattle.zones.specs.Editions.{nameless, under}
use Rattle.zones.specs.Lookup.{fixed_name_of, in_body}
use Rattle.zones.specs.declared.Edition.{Edition}
use Rattle.zones.specs.declared.Edition.TheVariants.{One, Two}
use Rattle.frames.specs.Frame.{order, zeros, version, sized, field, frame}
use Rattle.frames.specs.Machine.{act, step, walk}
use Rattle.locate.specs.Asked.{says}
use Rattle.questions.specs.Question.{ask}
use Rattle.answers.specs.declared.Mark.TheVariants.{All}
use Rattle.found_zones.specs.FoundZone.{ask_zone, FindsZone}
use Rattle.found_zones.specs.declared.FoundZone.{FoundZone}
use Rattle.answer_tables.specs.Table.{rows_of, ask_listed}
use Rattle.answer_tables.specs.Lists.{answers_from, ListsAnswers}
use Rattle.answer_tables.proofs.ListLaws.{tables}

-- 00 00 00 00, 00 05 01 03 55 54 43, 01 04 00 01 30 00
abbrev file : List ℕ
file = 0 ∷ 0 ∷ 0 ∷ 0 ∷ 0 ∷ 5 ∷ 1 ∷ 3 ∷ 85 ∷ 84 ∷ 67 ∷ 1 ∷ 4 ∷ 0 ∷ 1 ∷ 48 ∷ 0 ∷ []

abbrev utc : List ℕ
utc = 85 ∷ 84 ∷ 67 ∷ []

abbrev zone : FoundZone
zone = record { pool = 6; past = 11; start = 13; end = 17; place = 11 }

-- room for one row and a number
abbrev room : List ℤ
room = pos 1 ∷ pos 2 ∷ pos 3 ∷ pos 4 ∷ pos 5 ∷ pos 6 ∷ pos 7 ∷ pos 8 ∷ []

abbrev table : List ℤ
table = pos 0 ∷ pos 0 ∷ pos 0 ∷ pos 8 ∷ pos 3 ∷ negsuc 9223372036854775807 ∷ pos 9223372036854775807 ∷ pos 8 ∷ []

pub finds : FindsZone file utc (Ok zone)
unfolding ask_zone ask says walk iterate step act frame version zeros field order sized any_groups read_groups many counted all_strings ended chars text_sized equal read_starts starts_in room_in parse_zone after_id after_flag parse_fixed after_fixed_offset zone_of parse_byte parse_name judge_name read_sum under nameless fixed_name_of in_body lent_part text_in string_span string_numbered nth_string parse_string judge_length
finds = record { to = λ z ed. go z ed }
  where
    go : (z : ℤ) (ed : Edition) → ask_zone file zone z ed ≡ ask file utc z All ed
    go z One = refl
    go z Two = refl

pub lists : ListsAnswers file zone (pos 0) Two room (Ok 1) table
unfolding ask_zone answers_from rows_of biased_of any_groups read_groups ended room_in parse_zone after_id after_flag parse_fixed after_fixed_offset zone_of parse_byte parse_name judge_name read_sum under nameless fixed_name_of in_body lent_part text_in string_span string_numbered nth_string parse_string judge_length
lists = record { result = refl; rows = refl }

-- so the question over that row is the question on the file, at every tick
pub asks : (z : ℤ) → ask_listed file zone (take 7 table) z Two ≡ ask file utc z All Two
asks z = (tables file zone Two).asks utc finds (pos 0) room table 1 lists z
