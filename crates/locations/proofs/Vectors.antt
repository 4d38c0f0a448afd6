-- Fields 6 and 7 on worked data, by computation, with a pool of three strings. Assumes nothing.
use Rattle.base.specs.declared.Refusal.{Refusal}
use Rattle.std.specs.Prelude.{Err, Ok, Result}
use Rattle.base.specs.declared.Refusal.TheVariants.{BadCode, BadData, BadLocation, BadText}
use mathlib.Core.Path.{◌≡◌, refl}
use mathlib.Core.List.{List, [], ◌∷◌, map}
use Prim.Native.Nat.{ℕ}
use Rattle.base.specs.Parsed.{many, ended}
use Rattle.signed.specs.Zigzag.{unzigzag_of}
use Rattle.counts.specs.Groups.{read_groups}
use Rattle.places.specs.Name.{judge_name, parse_name}
use Rattle.locations.specs.Content.{within, judge_seconds, parse_seconds, not_negative, judge_number, parse_number, parse_country, parse_countries, parse_texts}
use Rattle.locations.specs.Content.{parse_location, all_locations, parse_locations}
use Rattle.locations.specs.Find.{verdict_of}
use Rattle.locations.specs.declared.LocationField.TheVariants.{Zone, Zone1970}

abbrev zone : List ℕ → Result (Unit {0}) Refusal
zone d = verdict_of (parse_locations Zone 3 d)

abbrev zone1970 : List ℕ → Result (Unit {0}) Refusal
zone1970 d = verdict_of (parse_locations Zone1970 3 d)

-- no data; no location; one with zone ID and comment, without a comment, with a byte left over; 324,001 north, cut or before a bad code;
-- 324,001 south; 324,000 north; 648,001 west; 648,000 east; more locations than data; a cut code; a number outside the pool
pub field-6 :
    map zone (
    [] ∷
    (0 ∷ []) ∷
    (1 ∷ 0 ∷ 0 ∷ 0 ∷ 1 ∷ 2 ∷ 0 ∷ []) ∷
    (1 ∷ 0 ∷ 0 ∷ 0 ∷ 1 ∷ 2 ∷ []) ∷
    (1 ∷ 0 ∷ 0 ∷ 0 ∷ 1 ∷ 2 ∷ 0 ∷ 0 ∷ []) ∷
    (1 ∷ 194 ∷ 198 ∷ 39 ∷ []) ∷
    (1 ∷ 194 ∷ 198 ∷ 39 ∷ 128 ∷ 0 ∷ []) ∷
    (1 ∷ 193 ∷ 198 ∷ 39 ∷ []) ∷
    (1 ∷ 192 ∷ 198 ∷ 39 ∷ 0 ∷ 0 ∷ 0 ∷ 0 ∷ 0 ∷ []) ∷
    (1 ∷ 0 ∷ 129 ∷ 141 ∷ 79 ∷ []) ∷
    (1 ∷ 0 ∷ 128 ∷ 141 ∷ 79 ∷ 0 ∷ 0 ∷ 0 ∷ 0 ∷ []) ∷
    (255 ∷ 255 ∷ 255 ∷ 255 ∷ 7 ∷ []) ∷
    (1 ∷ 128 ∷ []) ∷
    (1 ∷ 0 ∷ 0 ∷ 0 ∷ 1 ∷ 3 ∷ 0 ∷ []) ∷
    [])
    ≡ Err BadData ∷ Ok tt ∷ Ok tt ∷ Err BadData ∷ Err BadData ∷ Err BadLocation ∷ Err BadLocation ∷ Err BadLocation ∷ Ok tt ∷ Err BadLocation ∷ Ok tt ∷ Err BadData ∷ Err BadData ∷ Err BadText ∷ []
unfolding verdict_of parse_locations all_locations parse_location parse_texts parse_countries parse_country parse_number judge_number not_negative parse_seconds judge_seconds within unzigzag_of many ended parse_name judge_name read_groups
field-6 = refl

-- no location; no country; two countries; -1 countries; 2,147,483,647 countries with no data behind, and with a number outside the pool; a code
-- that is not the shortest
pub field-7 :
    map zone1970 (
    (0 ∷ []) ∷
    (1 ∷ 0 ∷ 0 ∷ 0 ∷ 0 ∷ 0 ∷ []) ∷
    (1 ∷ 0 ∷ 0 ∷ 4 ∷ 0 ∷ 1 ∷ 2 ∷ 1 ∷ 2 ∷ 0 ∷ []) ∷
    (1 ∷ 0 ∷ 0 ∷ 1 ∷ []) ∷
    (1 ∷ 0 ∷ 0 ∷ 254 ∷ 255 ∷ 255 ∷ 255 ∷ 15 ∷ []) ∷
    (1 ∷ 0 ∷ 0 ∷ 254 ∷ 255 ∷ 255 ∷ 255 ∷ 15 ∷ 3 ∷ []) ∷
    (1 ∷ 0 ∷ 0 ∷ 128 ∷ 0 ∷ []) ∷
    [])
    ≡ Ok tt ∷ Ok tt ∷ Ok tt ∷ Err BadLocation ∷ Err BadData ∷ Err BadText ∷ Err BadCode ∷ []
unfolding verdict_of parse_locations all_locations parse_location parse_texts parse_countries parse_country parse_number judge_number not_negative parse_seconds judge_seconds within unzigzag_of many ended parse_name judge_name read_groups
field-7 = refl
