-- Worked examples of field 0. Assumes nothing.
use Rattle.base.specs.declared.Refusal.TheVariants.{BadData, BadText}
use mathlib.Core.Path.{◌≡◌, refl}
use mathlib.Core.List.{[], ◌∷◌, map}
use Rattle.base.specs.Parsed.{got, bad, ended, many}
use Rattle.counts.specs.Groups.{read_groups}
use Rattle.utf8.specs.Utf8.{chars}
use Rattle.texts.specs.Text.{text_sized}
use Rattle.pool.specs.Pool.{all_strings, counted, parse_pool}
use Rattle.pool.specs.Index.{read_starts, starts_in, starts_of, span_of}

-- the pool of the whole file of 01; an empty pool; no count; a string that is cut; one that is not UTF-8 before one that is too long; a byte left over
pub pools :
    map parse_pool ((1 ∷ 3 ∷ 85 ∷ 84 ∷ 67 ∷ []) ∷ (0 ∷ []) ∷ [] ∷ (1 ∷ 2 ∷ 65 ∷ []) ∷ (2 ∷ 1 ∷ 0xff ∷ 0x81 ∷ 8 ∷ []) ∷ (0 ∷ 0 ∷ []) ∷ [])
    ≡ got ((85 ∷ 84 ∷ 67 ∷ []) ∷ []) [] ∷ got [] [] ∷ bad BadData ∷ bad BadData ∷ bad BadText ∷ bad BadData ∷ []
unfolding chars text_sized read_groups many all_strings counted ended
pools = refl

-- the index of "A", "", "UTC", and where the last of them lies
pub index : starts_of (3 ∷ 1 ∷ 65 ∷ 0 ∷ 3 ∷ 85 ∷ 84 ∷ 67 ∷ []) ≡ 1 ∷ 3 ∷ 4 ∷ []
unfolding chars text_sized read_groups read_starts starts_in
index = refl

pub span : span_of (3 ∷ 1 ∷ 65 ∷ 0 ∷ 3 ∷ 85 ∷ 84 ∷ 67 ∷ []) 2 ≡ record { at = 5; len = 3 }
unfolding chars text_sized read_groups read_starts starts_in
span = refl
