-- Worked questions by name, computed. Assumes nothing.
use mathlib.Core.Path.{◌≡◌, refl}
use mathlib.Core.List.{List, [], ◌∷◌, map}
use Prim.Native.Nat.{ℕ}
use lib.IntN.{pos}
use Rattle.base.specs.Parsed.{parse_byte, ended, many}
use Rattle.base.specs.Run.{iterate}
use Rattle.base.specs.Equal.{equal}
use Rattle.signed.specs.Instant.{biased_of}
use Rattle.counts.specs.Groups.{any_groups, read_groups}
use Rattle.offsets.specs.Offset.{read_sum}
use Rattle.utf8.specs.Utf8.{chars}
use Rattle.texts.specs.Text.{text_sized}
use Rattle.pool.specs.Pool.{all_strings, counted}
use Rattle.pool.specs.Index.{read_starts, starts_in}
use Rattle.places.specs.Name.{judge_name, parse_name}
use Rattle.ids.specs.Ids.{among}
use Rattle.zones.specs.Lookup.{in_body}
use Rattle.zones.specs.Editions.{under}
use Rattle.zones.specs.declared.Edition.TheVariants.{Two}
use Rattle.zones.specs.Parse.{zone_of, after_fixed_offset, parse_fixed, after_flag, after_id, parse_zone}
use Rattle.aliases.specs.Dictionary.{keys, target_of}
use Rattle.aliases.specs.Field.{after_key, parse_entry, parse_entries, all_entries, parse_aliases}
use Rattle.alias_lookup.specs.Lookup.{lookup}
use Rattle.frames.specs.Frame.{order, zeros, version, sized, field, frame}
use Rattle.frames.specs.Machine.{act, step, walk}
use Rattle.answers.specs.Answers.{number_of, place_of}
use Rattle.answers.specs.declared.Mark.{Mark}
use Rattle.answers.specs.declared.Mark.TheVariants.{More, All}
use Rattle.locate.specs.Asked.{says as asked_says}
use Rattle.named_fields.specs.Named.{zone_in, zones_of, says, ask_named}

-- strings "A" and "B", a zone "A", and what follows
abbrev pub behind : List ℕ → List ℕ
behind d = 0 ∷ 0 ∷ 0 ∷ 0 ∷ 0 ∷ 5 ∷ 2 ∷ 1 ∷ 65 ∷ 1 ∷ 66 ∷ 1 ∷ 3 ∷ 0 ∷ 1 ∷ 48 ∷ d

pub record Asked : Type 0 where
  pub name : List ℕ
  pub bytes : List ℕ
  pub mark : Mark

abbrev a : List ℕ → Mark → Asked
a d mark = record { name = 65 ∷ []; bytes = behind d; mark = mark }

abbrev b : List ℕ → Mark → Asked
b d mark = record { name = 66 ∷ []; bytes = behind d; mark = mark }

-- number and place
abbrev given : Asked → List ℕ
given q = number_of (ask_named q.bytes q.name (pos 0) q.mark Two) ∷ place_of (ask_named q.bytes q.name (pos 0) q.mark Two) ∷ []

-- an ID above 3 has begun, field 2 has, nothing has; the zone is there already, whatever field 3 is; field 2 is faulty, before field 3 and before an ID above it
pub waiting :
    map given
    (b (4 ∷ []) More ∷ b (2 ∷ []) More ∷ b [] More ∷ b [] All ∷ a [] More ∷ a (3 ∷ 0 ∷ []) More ∷ a (3 ∷ []) All
    ∷ b (2 ∷ 2 ∷ 1 ∷ 255 ∷ 3 ∷ 3 ∷ 1 ∷ 1 ∷ 0 ∷ []) All ∷ b (2 ∷ 2 ∷ 1 ∷ 255 ∷ 4 ∷ []) More ∷ [])
    ≡ (12 ∷ 16 ∷ []) ∷ (1 ∷ 16 ∷ []) ∷ (1 ∷ 16 ∷ []) ∷ (12 ∷ 16 ∷ []) ∷ (0 ∷ 0 ∷ []) ∷ (0 ∷ 0 ∷ []) ∷ (0 ∷ 0 ∷ [])
    ∷ (8 ∷ 16 ∷ []) ∷ (8 ∷ 16 ∷ []) ∷ []
unfolding biased_of any_groups read_groups read_sum chars text_sized all_strings counted read_starts starts_in equal judge_name parse_name in_body under zone_of after_fixed_offset parse_fixed after_flag after_id parse_zone order zeros version sized field frame act step walk asked_says says ask_named zone_in zones_of keys target_of lookup after_key parse_entry parse_entries all_entries parse_aliases among parse_byte ended many iterate
waiting = refl

-- "B" is no key, in a field 3 that is whole and in one that isn't; it leads to "A"; a byte is left over, two keys are equal, in a whole field and
-- in one that isn't; it leads to itself; its target is past the pool
pub aliases :
    map given
    (b (3 ∷ 1 ∷ 0 ∷ []) More ∷ b (3 ∷ 2 ∷ 0 ∷ []) More ∷ b (3 ∷ 3 ∷ 1 ∷ 1 ∷ 0 ∷ []) More ∷ b (3 ∷ 4 ∷ 1 ∷ 1 ∷ 0 ∷ 255 ∷ []) More
    ∷ b (3 ∷ 5 ∷ 2 ∷ 1 ∷ 0 ∷ 1 ∷ 5 ∷ []) More ∷ b (3 ∷ 6 ∷ 2 ∷ 1 ∷ 0 ∷ 1 ∷ []) More ∷ b (3 ∷ 3 ∷ 1 ∷ 1 ∷ 1 ∷ []) More ∷ b (3 ∷ 3 ∷ 1 ∷ 1 ∷ 2 ∷ []) All ∷ [])
    ≡ (12 ∷ 16 ∷ []) ∷ (1 ∷ 16 ∷ []) ∷ (0 ∷ 0 ∷ []) ∷ (9 ∷ 16 ∷ []) ∷ (19 ∷ 16 ∷ []) ∷ (1 ∷ 16 ∷ []) ∷ (18 ∷ 16 ∷ []) ∷ (8 ∷ 16 ∷ []) ∷ []
unfolding biased_of any_groups read_groups read_sum chars text_sized all_strings counted read_starts starts_in equal judge_name parse_name in_body under zone_of after_fixed_offset parse_fixed after_flag after_id parse_zone order zeros version sized field frame act step walk asked_says says ask_named zone_in zones_of keys target_of lookup after_key parse_entry parse_entries all_entries parse_aliases among parse_byte ended many iterate
aliases = refl

-- strings "A", "a" to "i", a zone "A", and a field 3 in which each leads to the next
abbrev chain : List ℕ → List ℕ
chain d =
    0 ∷ 0 ∷ 0 ∷ 0 ∷ 0 ∷ 21 ∷ 10 ∷ 1 ∷ 65 ∷ 1 ∷ 97 ∷ 1 ∷ 98 ∷ 1 ∷ 99 ∷ 1 ∷ 100 ∷ 1 ∷ 101 ∷ 1 ∷ 102 ∷ 1 ∷ 103 ∷ 1 ∷ 104 ∷ 1 ∷ 105 ∷ 1 ∷ 3 ∷ 0 ∷ 1 ∷ 48 ∷ 3 ∷ d

abbrev eight : List ℕ → List ℕ
eight d = 1 ∷ 2 ∷ 2 ∷ 3 ∷ 3 ∷ 4 ∷ 4 ∷ 5 ∷ 5 ∷ 6 ∷ 6 ∷ 7 ∷ 7 ∷ 8 ∷ 8 ∷ d

abbrev from : ℕ → List ℕ → Asked
from c d = record { name = c ∷ []; bytes = chain d; mark = All }

-- eight targets, the last of them the zone; nine, from the first and from the second; eight, the last unknown
pub steps :
    map given
    (from 97 (17 ∷ 8 ∷ eight (0 ∷ [])) ∷ from 97 (19 ∷ 9 ∷ eight (9 ∷ 9 ∷ 0 ∷ [])) ∷ from 98 (19 ∷ 9 ∷ eight (9 ∷ 9 ∷ 0 ∷ [])) ∷ from 97 (17 ∷ 8 ∷ eight (9 ∷ [])) ∷ [])
    ≡ (0 ∷ 0 ∷ []) ∷ (18 ∷ 32 ∷ []) ∷ (0 ∷ 0 ∷ []) ∷ (12 ∷ 32 ∷ []) ∷ []
unfolding biased_of any_groups read_groups read_sum chars text_sized all_strings counted read_starts starts_in equal judge_name parse_name in_body under zone_of after_fixed_offset parse_fixed after_flag after_id parse_zone order zeros version sized field frame act step walk asked_says says ask_named zone_in zones_of keys target_of lookup after_key parse_entry parse_entries all_entries parse_aliases among parse_byte ended many iterate
steps = refl
