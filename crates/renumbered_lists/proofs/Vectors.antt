-- A worked view, computed. Assumes nothing.
use mathlib.Core.Path.{◌≡◌, refl}
use mathlib.Core.List.{List, [], ◌∷◌, map}
use mathlib.Core.Option.{none, some}
use Prim.Native.Nat.{ℕ}
use Rattle.counts.specs.Groups.{any_groups, read_groups}
use Rattle.frames.specs.Frame.{order, zeros, version, sized, field, frame}
use Rattle.frames.specs.Fields.{scan, listing}
use Rattle.field_search.specs.Search.{field_with}
use Rattle.string_search.specs.Search.{judge_length, parse_string, nth_string, string_numbered, string_span}
use Rattle.countries.specs.Step.{read_country, step_at}
use Rattle.location_lookup.specs.Location.{lent_part, text_in}
use Rattle.location_lookup.specs.Country.{pair_of, next_of}
use Rattle.renumbered_lists.specs.Answers.{CountryTexts, shown}

-- the pool A, B, C, D, E, and in field 7 a location with two countries
abbrev two-countries : List ℕ
two-countries =
    0 ∷ 0 ∷ 0 ∷ 0 ∷ 0 ∷ 11 ∷ 5 ∷ 1 ∷ 65 ∷ 1 ∷ 66 ∷ 1 ∷ 67 ∷ 1 ∷ 68 ∷ 1 ∷ 69 ∷ 7 ∷ 10 ∷ 1 ∷ 0 ∷ 0 ∷ 4 ∷ 1 ∷ 2 ∷ 3 ∷ 4 ∷ 0 ∷ 0 ∷ []

abbrev country : ℕ → ℕ → CountryTexts
country n c = record { name = n ∷ []; code = c ∷ [] }

-- "each name and code once in file order, then no more"
pub stepped : map (shown two-countries 19 29 4 2) (0 ∷ 1 ∷ 2 ∷ 3 ∷ []) ≡ some (country 66 67) ∷ some (country 68 69) ∷ none ∷ none ∷ []
unfolding shown next_of pair_of step_at read_country lent_part text_in string_span string_numbered nth_string parse_string judge_length field_with listing scan frame version zeros field sized order any_groups read_groups
stepped = refl
