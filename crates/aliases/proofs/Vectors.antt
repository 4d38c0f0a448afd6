-- Worked data of field 3, computed. Assumes nothing.
use Rattle.base.specs.declared.Refusal.TheVariants.{BadCode, BadData, BadText, SecondAlias}
use mathlib.Core.Path.{◌≡◌, refl}
use mathlib.Core.List.{List, [], ◌∷◌, map}
use Prim.Native.Nat.{ℕ}
use Rattle.base.specs.Equal.{equal}
use Rattle.base.specs.Parsed.{Parsed, got, bad, ended}
use Rattle.counts.specs.Groups.{read_groups}
use Rattle.places.specs.Name.{judge_name, parse_name}
use Rattle.ids.specs.Ids.{among}
use Rattle.aliases.specs.Dictionary.{entry, Dictionary, keys}
use Rattle.aliases.specs.Field.{after_key, parse_entry, parse_entries, all_entries, parse_aliases}

-- with the strings A, B and B again for a pool
abbrev read : List ℕ → Parsed Dictionary
read d = parse_aliases ((65 ∷ []) ∷ (66 ∷ []) ∷ (66 ∷ []) ∷ []) d

-- no pair; one; two of which the second's target is the first's key
pub good :
    map read ((0 ∷ []) ∷ (1 ∷ 1 ∷ 0 ∷ []) ∷ (2 ∷ 1 ∷ 0 ∷ 0 ∷ 2 ∷ []) ∷ [])
    ≡ got [] [] ∷ got (entry (66 ∷ []) (65 ∷ []) ∷ []) [] ∷ got (entry (66 ∷ []) (65 ∷ []) ∷ entry (65 ∷ []) (66 ∷ []) ∷ []) [] ∷ []
unfolding parse_aliases all_entries parse_entries parse_entry after_key keys among equal ended parse_name judge_name read_groups
good = refl

-- no data; a count without its pairs, and a large one; a byte left over; a number past the pool as key and as target; a padded count as target
pub faults :
    map read ([] ∷ (1 ∷ []) ∷ (255 ∷ 255 ∷ 255 ∷ 255 ∷ 7 ∷ []) ∷ (1 ∷ 1 ∷ 0 ∷ 255 ∷ []) ∷ (1 ∷ 3 ∷ 0 ∷ []) ∷ (1 ∷ 1 ∷ 3 ∷ []) ∷ (1 ∷ 1 ∷ 128 ∷ 0 ∷ []) ∷ [])
    ≡ bad BadData ∷ bad BadData ∷ bad BadData ∷ bad BadData ∷ bad BadText ∷ bad BadText ∷ bad BadCode ∷ []
unfolding parse_aliases all_entries parse_entries parse_entry after_key keys among equal ended parse_name judge_name read_groups
faults = refl

-- the second of two equal keys, by their bytes: before a target that is missing, past the pool or padded, before a byte left over and before
-- pairs that a count promises
pub second-keys :
    map read
    ((2 ∷ 1 ∷ 0 ∷ 2 ∷ 0 ∷ []) ∷ (2 ∷ 1 ∷ 0 ∷ 1 ∷ []) ∷ (2 ∷ 1 ∷ 0 ∷ 1 ∷ 7 ∷ []) ∷ (2 ∷ 1 ∷ 0 ∷ 1 ∷ 128 ∷ 0 ∷ []) ∷ (2 ∷ 1 ∷ 0 ∷ 1 ∷ 0 ∷ 0 ∷ [])
    ∷ (255 ∷ 255 ∷ 255 ∷ 255 ∷ 7 ∷ 1 ∷ 0 ∷ 1 ∷ 0 ∷ []) ∷ [])
    ≡ bad SecondAlias ∷ bad SecondAlias ∷ bad SecondAlias ∷ bad SecondAlias ∷ bad SecondAlias ∷ bad SecondAlias ∷ []
unfolding parse_aliases all_entries parse_entries parse_entry after_key keys among equal ended parse_name judge_name read_groups
second-keys = refl
