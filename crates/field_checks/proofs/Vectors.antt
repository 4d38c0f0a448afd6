-- Worked files, by the check and by the version text. Assumes nothing.
use Rattle.std.specs.Prelude.{Err, Ok}
use Rattle.base.specs.declared.Refusal.TheVariants.{BadCode, BadData, BadText, CutShort, FieldOrder, FirstField, NotFound, SecondAlias, SecondZone, TooLarge, WrongVersion}
use mathlib.Core.Path.{◌≡◌, refl}
use mathlib.Core.List.{List, [], ◌∷◌, ◌++◌, map}
use Prim.Native.Nat.{ℕ}
use lib.ListN.{take}
use Rattle.base.specs.Parsed.{parse_byte, ended, many}
use Rattle.base.specs.Run.{iterate}
use Rattle.counts.specs.Groups.{any_groups, read_groups}
use Rattle.utf8.specs.Utf8.{chars}
use Rattle.texts.specs.Text.{text_sized}
use Rattle.offsets.specs.Offset.{read_sum}
use Rattle.places.specs.Name.{judge_name, parse_name}
use Rattle.pool.specs.Pool.{all_strings, counted}
use Rattle.base.specs.Equal.{equal}
use Rattle.ids.specs.Ids.{among}
use Rattle.aliases.specs.Dictionary.{keys}
use Rattle.aliases.specs.Field.{after_key, parse_entry, parse_entries, all_entries, parse_aliases}
use Rattle.zones.specs.Parse.{zone_of, after_fixed_offset, parse_fixed, after_flag, after_id, parse_zone}
use Rattle.frames.specs.Frame.{order, zeros, version, sized, field, frame}
use Rattle.frames.specs.Machine.{act, step, walk}
use Rattle.frames.specs.Fields.{scan, listing}
use Rattle.field_checks.specs.Check.{pool_kept, new_id, zone_kept, text_kept, aliases_kept, judged, concluded, conclusion, check_of, version_of, WellFormed}
use Rattle.field_checks.specs.File.{IsFile}
use Rattle.field_checks.specs.Version.{GivesText, ReadsText}
use Rattle.field_checks.proofs.WellFormedLaws.{good-well-formed}
use Rattle.field_checks.proofs.FileLaws.{well-formed-file}
use Rattle.field_checks.proofs.TextLaws.{version-text}

abbrev pub bare : List ℕ
bare = 0 ∷ 0 ∷ 0 ∷ 0 ∷ []

-- "One whole file": one fixed zone "UTC"
abbrev pub file : List ℕ
file = bare ++ 0 ∷ 5 ∷ 1 ∷ 3 ∷ 85 ∷ 84 ∷ 67 ∷ 1 ∷ 4 ∷ 0 ∷ 1 ∷ 48 ∷ 0 ∷ []

-- no bytes; the version alone, cut, and wrong; a first field that isn't 0; field 0 without data
pub starts :
    map check_of ([] ∷ bare ∷ (0 ∷ 0 ∷ []) ∷ (0 ∷ 0 ∷ 0 ∷ 1 ∷ []) ∷ (bare ++ 1 ∷ []) ∷ (bare ++ 0 ∷ 0 ∷ []) ∷ [])
    ≡ Err (CutShort, 0) ∷ Err (FirstField, 4) ∷ Err (CutShort, 0) ∷ Err (WrongVersion, 0) ∷ Err (FirstField, 4) ∷ Err (BadData, 4) ∷ []
unfolding conclusion walk iterate step act frame version zeros field order sized any_groups read_groups many counted all_strings ended concluded pool_kept judged
starts = refl

-- strings "A", "B", "A", a zone "A" and a zone of the ID that is given
abbrev pub zoned : ℕ → List ℕ
zoned k = bare ++ 0 ∷ 7 ∷ 3 ∷ 1 ∷ 65 ∷ 1 ∷ 66 ∷ 1 ∷ 65 ∷ 1 ∷ 4 ∷ 0 ∷ 1 ∷ 48 ∷ 0 ∷ 1 ∷ 4 ∷ k ∷ 1 ∷ 50 ∷ 0 ∷ []

-- the whole file; its last byte missing; a field 0 behind it; two zones of different IDs; two of one ID under different pool numbers, and a
-- field 0 behind them
pub zones :
    map check_of (file ∷ take 16 file ∷ (file ++ 0 ∷ []) ∷ zoned 1 ∷ zoned 2 ∷ (zoned 2 ++ 0 ∷ []) ∷ [])
    ≡ Ok tt ∷ Err (CutShort, 11) ∷ Err (FieldOrder, 17) ∷ (Ok tt) ∷ Err (SecondZone, 19) ∷ Err (SecondZone, 19) ∷ []
unfolding conclusion walk iterate step act frame version zeros field order sized any_groups read_groups many counted all_strings ended concluded pool_kept judged chars text_sized zone_kept new_id text_kept among equal parse_zone after_id after_flag parse_fixed after_fixed_offset zone_of parse_byte parse_name judge_name read_sum
zones = refl

-- a pool of "A" and a field 1
abbrev pub fixed_only : List ℕ → List ℕ
fixed_only d = bare ++ 0 ∷ 3 ∷ 1 ∷ 1 ∷ 65 ∷ 1 ∷ d

-- a fixed zone that ends right after its offset; one whose size counts a name that isn't there; behind the offset a count that is cut, a
-- number past the pool, a count that isn't shortest, and a byte left over behind a name
pub names :
    map check_of
    (fixed_only (3 ∷ 0 ∷ 1 ∷ 48 ∷ []) ∷ fixed_only (4 ∷ 0 ∷ 1 ∷ 48 ∷ []) ∷ fixed_only (4 ∷ 0 ∷ 1 ∷ 48 ∷ 128 ∷ []) ∷ fixed_only (4 ∷ 0 ∷ 1 ∷ 48 ∷ 1 ∷ [])
    ∷ fixed_only (5 ∷ 0 ∷ 1 ∷ 48 ∷ 128 ∷ 0 ∷ []) ∷ fixed_only (5 ∷ 0 ∷ 1 ∷ 48 ∷ 0 ∷ 0 ∷ []) ∷ [])
    ≡ Ok tt ∷ Err (CutShort, 9) ∷ Err (BadData, 9) ∷ Err (BadText, 9) ∷ Err (BadCode, 9) ∷ Err (BadData, 9) ∷ []
unfolding conclusion walk iterate step act frame version zeros field order sized any_groups read_groups many counted all_strings ended concluded pool_kept judged chars text_sized zone_kept new_id text_kept among equal parse_zone after_id after_flag parse_fixed after_fixed_offset zone_of parse_byte parse_name judge_name read_sum
names = refl

-- the version and a field 0 of "A" behind its ID byte, with a size as given
abbrev pub sized_pool : List ℕ → List ℕ
sized_pool s = bare ++ 0 ∷ (s ++ 1 ∷ 1 ∷ 65 ∷ [])

-- a size padded to two bytes and to five; a sixth byte; no last byte in five; a fifth byte above 07, a fifth byte 07, and 0 behind the largest
-- four groups
pub sizes :
    map check_of
    (sized_pool (131 ∷ 0 ∷ []) ∷ sized_pool (131 ∷ 128 ∷ 128 ∷ 128 ∷ 0 ∷ []) ∷ sized_pool (131 ∷ 128 ∷ 128 ∷ 128 ∷ 128 ∷ 0 ∷ [])
    ∷ sized_pool (131 ∷ 128 ∷ 128 ∷ 128 ∷ 128 ∷ []) ∷ sized_pool (131 ∷ 128 ∷ 128 ∷ 128 ∷ 8 ∷ []) ∷ sized_pool (131 ∷ 128 ∷ 128 ∷ 128 ∷ 7 ∷ [])
    ∷ sized_pool (255 ∷ 255 ∷ 255 ∷ 255 ∷ 0 ∷ []) ∷ [])
    ≡ Ok tt ∷ (Ok tt) ∷ Err (BadCode, 4) ∷ Err (BadCode, 4) ∷ Err (BadCode, 4) ∷ Err (TooLarge, 4) ∷ Err (TooLarge, 4) ∷ []
unfolding conclusion walk iterate step act frame version zeros field order sized any_groups read_groups many counted all_strings ended concluded pool_kept judged chars text_sized zone_kept new_id text_kept among equal parse_zone after_id after_flag parse_fixed after_fixed_offset zone_of parse_byte parse_name judge_name read_sum
sizes = refl

-- padding is a size's alone: a field 0 of no data in a padded size; a pool count that is padded; a field 2 of no data in a padded size; a
-- padded length of its text
pub counts :
    map check_of
    ((bare ++ 0 ∷ 128 ∷ 128 ∷ 128 ∷ 128 ∷ 0 ∷ []) ∷ (bare ++ 0 ∷ 4 ∷ 129 ∷ 0 ∷ 1 ∷ 65 ∷ []) ∷ (sized_pool (3 ∷ []) ++ 2 ∷ 128 ∷ 0 ∷ [])
    ∷ (sized_pool (3 ∷ []) ++ 2 ∷ 3 ∷ 129 ∷ 0 ∷ 65 ∷ []) ∷ [])
    ≡ Err (BadData, 4) ∷ Err (BadCode, 4) ∷ Err (BadData, 9) ∷ Err (BadCode, 9) ∷ []
unfolding conclusion walk iterate step act frame version zeros field order sized any_groups read_groups many counted all_strings ended concluded pool_kept judged chars text_sized zone_kept new_id text_kept among equal parse_zone after_id after_flag parse_fixed after_fixed_offset zone_of parse_byte parse_name judge_name read_sum
counts = refl

-- no version text; "A" in field 2; a byte left over there; a field 3 behind it
pub texts :
    map version_of (file ∷ (file ++ 2 ∷ 2 ∷ 1 ∷ 65 ∷ []) ∷ (file ++ 2 ∷ 3 ∷ 1 ∷ 65 ∷ 0 ∷ []) ∷ (file ++ 2 ∷ 2 ∷ 1 ∷ 65 ∷ 3 ∷ 1 ∷ 0 ∷ []) ∷ bare ∷ [])
    ≡ Err (NotFound, 17) ∷ Ok (20, 1) ∷ Err (BadData, 17) ∷ Ok (20, 1) ∷ Err (FirstField, 4) ∷ []
unfolding conclusion walk iterate step act frame version zeros field order sized any_groups read_groups many counted all_strings ended concluded pool_kept judged chars text_sized zone_kept new_id text_kept aliases_kept parse_aliases all_entries parse_entries among equal parse_zone after_id after_flag parse_fixed after_fixed_offset zone_of parse_byte parse_name judge_name read_sum
texts = refl

-- "A" and "B" for a pool, a zone "A" and a field 3
abbrev pub aliased : List ℕ → List ℕ
aliased d = bare ++ 0 ∷ 5 ∷ 2 ∷ 1 ∷ 65 ∷ 1 ∷ 66 ∷ 1 ∷ 3 ∷ 0 ∷ 1 ∷ 48 ∷ 3 ∷ d

-- no pair, "B" to "A", "B" to itself; no data, a byte left over, a target past the pool; two equal keys, the second without a target; the
-- version text of a file whose field 3 is without data
pub aliases :
    (map check_of
    (aliased (1 ∷ 0 ∷ []) ∷ aliased (3 ∷ 1 ∷ 1 ∷ 0 ∷ []) ∷ aliased (3 ∷ 1 ∷ 1 ∷ 1 ∷ []) ∷ aliased (0 ∷ []) ∷ aliased (4 ∷ 1 ∷ 1 ∷ 0 ∷ 255 ∷ [])
    ∷ aliased (3 ∷ 1 ∷ 1 ∷ 2 ∷ []) ∷ aliased (4 ∷ 2 ∷ 1 ∷ 0 ∷ 1 ∷ []) ∷ [])
    ≡ Ok tt ∷ (Ok tt) ∷ (Ok tt) ∷ Err (BadData, 16) ∷ Err (BadData, 16) ∷ Err (BadText, 16) ∷ Err (SecondAlias, 16) ∷ [])
    × (version_of (aliased (0 ∷ [])) ≡ Err (BadData, 16))
unfolding conclusion walk iterate step act frame version zeros field order sized any_groups read_groups many counted all_strings ended concluded pool_kept judged chars text_sized zone_kept new_id text_kept aliases_kept parse_aliases all_entries parse_entries parse_entry after_key keys among equal parse_zone after_id after_flag parse_fixed after_fixed_offset zone_of parse_byte parse_name judge_name read_sum
aliases = (refl, refl)

-- the premise of the laws about well-formed files is met
pub file-well-formed : WellFormed file
unfolding conclusion walk iterate step act frame version zeros field order sized any_groups read_groups many counted all_strings ended concluded pool_kept judged chars text_sized zone_kept new_id text_kept among equal parse_zone after_id after_flag parse_fixed after_fixed_offset zone_of parse_byte parse_name judge_name read_sum
file-well-formed = good-well-formed file refl

-- so it is a file by its bytes, and its version text is not there
pub file-is : IsFile file
file-is = well-formed-file file file-well-formed

pub file-text : ReadsText file
file-text = version-text file file-well-formed

-- and that of the file with "A" in field 2 is
pub text-well-formed : WellFormed (file ++ 2 ∷ 2 ∷ 1 ∷ 65 ∷ [])
unfolding conclusion walk iterate step act frame version zeros field order sized any_groups read_groups many counted all_strings ended concluded pool_kept judged chars text_sized zone_kept new_id text_kept among equal parse_zone after_id after_flag parse_fixed after_fixed_offset zone_of parse_byte parse_name judge_name read_sum
text-well-formed = good-well-formed (file ++ 2 ∷ 2 ∷ 1 ∷ 65 ∷ []) refl

pub text-there : GivesText (file ++ 2 ∷ 2 ∷ 1 ∷ 65 ∷ []) (record { place = 17; id = 2; start = 19; past = 21; body = 1 ∷ 65 ∷ [] })
unfolding listing scan frame version zeros field sized order any_groups
text-there =
    (version-text (file ++ 2 ∷ 2 ∷ 1 ∷ 65 ∷ []) text-well-formed).has
    (record { place = 4; id = 0; start = 6; past = 11; body = 1 ∷ 3 ∷ 85 ∷ 84 ∷ 67 ∷ [] } ∷ record { place = 11; id = 1; start = 13; past = 17; body = 0 ∷ 1 ∷ 48 ∷ 0 ∷ [] } ∷ [])
    (record { place = 17; id = 2; start = 19; past = 21; body = 1 ∷ 65 ∷ [] }) [] refl refl
