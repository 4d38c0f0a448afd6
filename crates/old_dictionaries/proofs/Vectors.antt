-- Worked examples of the older dictionary. Assumes nothing.
use Rattle.base.specs.declared.Refusal.TheVariants.{BadData, BadText, SecondAlias}
use mathlib.Core.Path.{◌≡◌, refl}
use mathlib.Core.List.{[], ◌∷◌, map}
use Rattle.base.specs.Parsed.{got, bad}
use Rattle.counts.specs.Fixed.{fixed_from}
use Rattle.utf8.specs.Utf8.{chars}
use Rattle.base.specs.Equal.{equal}
use Rattle.texts.specs.Text.{text_sized}
use Rattle.ids.specs.Ids.{among}
use Rattle.aliases.specs.Dictionary.{entry, keys}
use Rattle.old_counts.specs.OldCount.{read_old_count}
use Rattle.old_dictionaries.specs.OldDictionary.{after_key, parse_entry, parse_entries, parse_old_dictionary}

-- no entries, before bytes that are not looked at; A leads to B and "" to A; fifteen entries that are not there; the most entries
-- the second of two equal keys, before its value is cut, and before it is too long; a value that is not UTF-8
pub reads :
    map parse_old_dictionary
    ((0xf0 ∷ 0xff ∷ 0xff ∷ []) ∷ (0xf2 ∷ 0xf1 ∷ 0x41 ∷ 0xf1 ∷ 0x42 ∷ 0xf0 ∷ 0xf1 ∷ 0x41 ∷ 0xff ∷ []) ∷ (0x00 ∷ []) ∷ (0xff ∷ 0x7f ∷ 0xff ∷ 0xff ∷ 0xff ∷ [])
    ∷ (0xf2 ∷ 0xf1 ∷ 0x41 ∷ 0xf1 ∷ 0x42 ∷ 0xf1 ∷ 0x41 ∷ []) ∷ (0xf2 ∷ 0xf1 ∷ 0x41 ∷ 0xf1 ∷ 0x42 ∷ 0xf1 ∷ 0x41 ∷ 0x83 ∷ 0x72 ∷ []) ∷ (0xf1 ∷ 0xf1 ∷ 0x41 ∷ 0xf1 ∷ 0xff ∷ []) ∷ [])
    ≡ got [] (0xff ∷ 0xff ∷ []) ∷ got (entry (0x41 ∷ []) (0x42 ∷ []) ∷ entry [] (0x41 ∷ []) ∷ []) (0xff ∷ []) ∷ bad BadData ∷ bad BadData ∷ bad SecondAlias ∷ bad SecondAlias ∷ bad BadText ∷ []
unfolding read_old_count fixed_from chars text_sized among keys equal after_key parse_entry parse_entries parse_old_dictionary
reads = refl
