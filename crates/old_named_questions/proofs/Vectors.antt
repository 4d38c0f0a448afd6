-- Worked questions by name over an older dictionary, computed. Assumes nothing.
use mathlib.Core.Path.{◌≡◌, refl}
use mathlib.Core.List.{List, [], ◌∷◌, map}
use Prim.Native.Nat.{ℕ}
use Rattle.base.specs.Equal.{equal}
use Rattle.counts.specs.Fixed.{fixed_from}
use Rattle.utf8.specs.Utf8.{chars}
use Rattle.texts.specs.Text.{text_sized}
use Rattle.ids.specs.Ids.{among}
use Rattle.aliases.specs.Dictionary.{keys, target_of}
use Rattle.alias_lookup.specs.Lookup.{lookup}
use mathlib.Core.Option.{Option, none, some}
use lib.IntN.{pos}
use Rattle.base.specs.Pick.{pick}
use Rattle.answers.specs.Answers.{number_of, place_of}
use Rattle.answers.specs.declared.Found.{Found}
use Rattle.old_counts.specs.OldCount.{read_old_count}
use Rattle.old_dictionaries.specs.OldDictionary.{after_key, parse_entry, parse_entries, parse_old_dictionary}
use Rattle.old_named_questions.specs.OldNamed.{older_says}

-- an answer, of whatever numbers
abbrev answer : Found
answer = record { wall = pos 0; savings = pos 0; standard = pos 0; name = 0; length = 0; start = pos 0; end = pos 0 }

-- the zone "A" alone
abbrev zone : List ℕ → Option Found
zone x = pick (equal x (65 ∷ [])) (some answer) none

-- number and place of the name x over the older dictionary d
abbrev given : List ℕ → List ℕ → List ℕ
given x d = number_of (older_says zone x (parse_old_dictionary d)) ∷ place_of (older_says zone x (parse_old_dictionary d)) ∷ []

-- "X" leads to "A", before a byte that is not looked at; to itself; to "Y", which is unknown; it is no key; the entry behind it is faulty; no bytes
pub older :
    map (given (0x58 ∷ []))
    ((0xf1 ∷ 0xf1 ∷ 0x58 ∷ 0xf1 ∷ 0x41 ∷ 0xff ∷ []) ∷ (0xf1 ∷ 0xf1 ∷ 0x58 ∷ 0xf1 ∷ 0x58 ∷ []) ∷ (0xf1 ∷ 0xf1 ∷ 0x58 ∷ 0xf1 ∷ 0x59 ∷ []) ∷ (0xf0 ∷ [])
    ∷ (0xf2 ∷ 0xf1 ∷ 0x58 ∷ 0xf1 ∷ 0x41 ∷ 0xf1 ∷ 0xff ∷ []) ∷ [] ∷ [])
    ≡ (0 ∷ 0 ∷ []) ∷ (18 ∷ 0 ∷ []) ∷ (12 ∷ 0 ∷ []) ∷ (12 ∷ 0 ∷ []) ∷ (8 ∷ 0 ∷ []) ∷ (9 ∷ 0 ∷ []) ∷ []
unfolding read_old_count fixed_from chars text_sized among keys target_of equal lookup after_key parse_entry parse_entries parse_old_dictionary
older = refl
