-- A file with a fixed zone without a name, and the same with the ID's number for a name: both computed. Assumes nothing.
use mathlib.Core.Path.{◌≡◌, refl}
use mathlib.Core.List.{List, [], ◌∷◌, map}
use Prim.Native.Nat.{ℕ}
use Rattle.base.specs.Run.{iterate}
use Rattle.base.specs.Parsed.{got, parse_byte, ended, many}
use Rattle.base.specs.Equal.{equal}
use Rattle.base.proofs.Parts.{Bytes}
use Rattle.counts.specs.Groups.{any_groups, read_groups, write_groups}
use Rattle.utf8.specs.Utf8.{chars}
use Rattle.texts.specs.Text.{text_sized}
use Rattle.offsets.specs.Offset.{read_sum}
use Rattle.places.specs.Name.{judge_name, parse_name}
use Rattle.pool.specs.Pool.{all_strings, counted}
use Rattle.ids.specs.Ids.{among}
use Rattle.zones.specs.Content.{absent, present}
use Rattle.zones.specs.Parse.{zone_of, after_fixed_offset, parse_fixed, after_flag, after_id, parse_zone}
use Rattle.frames.specs.Frame.{order, zeros, version, sized, field, frame, Field}
use Rattle.frames.specs.Fields.{scan, listing}
use Rattle.frames.specs.Machine.{act, step, walk}
use Rattle.pieces.specs.Content.{parse_pieces, after_flag as past_flag, after_id as past_id, parse_head, after_head, parse_content, content_of, print_pieces, print}
use Rattle.field_checks.specs.Check.{pool_kept, new_id, zone_kept, text_kept, judged, concluded, conclusion, WellFormed}
use Rattle.field_checks.proofs.WellFormedLaws.{good-well-formed}
use Rattle.rewrite.specs.Kept.{fixed_zone}
use Rattle.rewrite.specs.Preferred.{contents, content, print_fields, print_file, preferred}
use Rattle.preferred_fields.specs.Field.{print_field}
use Rattle.rewrite.proofs.Example.{small, small_bytes}
use Rattle.rewrite.proofs.AbsenceLaws.{files-apart}

-- 00 00 00 00, 00 03 01 01 41, 01 03 00 01 30
abbrev pub nameless : List ℕ
nameless = 0 ∷ 0 ∷ 0 ∷ 0 ∷ 0 ∷ 3 ∷ 1 ∷ 1 ∷ 65 ∷ 1 ∷ 3 ∷ 0 ∷ 1 ∷ 48 ∷ []

-- 00 00 00 00, 00 03 01 01 41, 01 04 00 01 30 00
abbrev pub named : List ℕ
named = 0 ∷ 0 ∷ 0 ∷ 0 ∷ 0 ∷ 3 ∷ 1 ∷ 1 ∷ 65 ∷ 1 ∷ 4 ∷ 0 ∷ 1 ∷ 48 ∷ 0 ∷ []

pub nameless-well-formed : WellFormed nameless
unfolding conclusion walk iterate step act frame version zeros field order sized any_groups read_groups many counted all_strings ended concluded pool_kept judged chars text_sized zone_kept new_id text_kept among equal parse_zone after_id after_flag parse_fixed after_fixed_offset zone_of parse_byte parse_name judge_name read_sum
nameless-well-formed = good-well-formed nameless refl

pub named-well-formed : WellFormed named
unfolding conclusion walk iterate step act frame version zeros field order sized any_groups read_groups many counted all_strings ended concluded pool_kept judged chars text_sized zone_kept new_id text_kept among equal parse_zone after_id after_flag parse_fixed after_fixed_offset zone_of parse_byte parse_name judge_name read_sum
named-well-formed = good-well-formed named refl

-- each is its own preferred file: no name is added, and none dropped
pub copied : map preferred (nameless ∷ named ∷ []) ≡ nameless ∷ named ∷ []
unfolding contents content_of parse_content parse_head past_id past_flag after_head parse_pieces parse_byte any_groups read_groups listing scan frame version zeros field sized order print print_pieces write_groups print_field print_fields print_file
copied = refl

abbrev pool : Field
pool = record { place = 4; id = 0; start = 6; past = 9; body = 1 ∷ 1 ∷ 65 ∷ [] }

abbrev without : Field
without = record { place = 9; id = 1; start = 11; past = 14; body = 0 ∷ 1 ∷ 48 ∷ [] }

abbrev with-name : Field
with-name = record { place = 9; id = 1; start = 11; past = 15; body = 0 ∷ 1 ∷ 48 ∷ 0 ∷ [] }

bytes-without : Bytes (0 ∷ 1 ∷ 48 ∷ [])
unfolding small
bytes-without = small_bytes (0 ∷ 1 ∷ 48 ∷ []) refl

bytes-with : Bytes (0 ∷ 1 ∷ 48 ∷ 0 ∷ [])
unfolding small
bytes-with = small_bytes (0 ∷ 1 ∷ 48 ∷ 0 ∷ []) refl

parsed-without : parse_zone 1 (0 ∷ 1 ∷ 48 ∷ []) ≡ got (fixed_zone 0 86400000 absent) []
unfolding ended parse_zone after_id after_flag parse_fixed after_fixed_offset zone_of parse_byte parse_name judge_name read_sum read_groups
parsed-without = refl

parsed-with : parse_zone 1 (0 ∷ 1 ∷ 48 ∷ 0 ∷ []) ≡ got (fixed_zone 0 86400000 (present 0)) []
unfolding ended parse_zone after_id after_flag parse_fixed after_fixed_offset zone_of parse_byte parse_name judge_name read_sum read_groups
parsed-with = refl

-- and they are of two contents
pub two-contents : content nameless ≡ content named → ⊥
unfolding listing scan frame version zeros field sized order any_groups
two-contents e =
    files-apart nameless named (pool ∷ []) [] (pool ∷ []) [] without with-name 1 0 86400000 0 refl refl refl refl bytes-without bytes-with
    parsed-without parsed-with e
