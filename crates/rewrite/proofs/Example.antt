-- A file that meets the premises, computed: a zone with an instant by ticks where minutes do, one by minutes where hours do, and one by
-- ticks where hours do. Assumes nothing.
use mathlib.Core.Path.{◌≡◌, refl}
use mathlib.Core.Bool.{Bool, true}
use mathlib.Core.List.{List, [], ◌∷◌}
use Prim.Native.Nat.{ℕ}
use lib.Dec.{ltb}
use borrow.Author.Tests.{ltb-true}
use Rattle.base.specs.Pick.{both}
use Rattle.base.specs.Parsed.{parse_byte, ended, many, behind}
use Rattle.base.specs.Run.{iterate}
use Rattle.base.proofs.Parts.{Bytes}
use Rattle.base.proofs.ByteLaws.{no-bytes, cons-bytes}
use Rattle.base.proofs.Tests.{both_left, both_right}
use Rattle.signed.specs.Instant.{biased_of}
use Rattle.counts.specs.Groups.{any_groups, read_groups, write_groups}
use Rattle.counts.specs.Fixed.{fixed_from, fixed_bytes}
use Rattle.utf8.specs.Utf8.{chars}
use Rattle.texts.specs.Text.{text_sized}
use Rattle.offsets.specs.Offset.{read_sum}
use Rattle.transitions.specs.Transition.{read_moment, from_count, units_to, write_moment}
use Rattle.places.specs.Name.{judge_name, parse_name}
use Rattle.pool.specs.Pool.{all_strings, counted}
use Rattle.base.specs.Equal.{equal}
use Rattle.ids.specs.Ids.{among}
use Rattle.intervals.specs.Interval.{parse_interval, after_start, parse_details, after_name, after_wall, judge_standard}
use Rattle.zones.specs.Parse.{zone_of, after_tail_byte, after_end, after_intervals, after_count, parse_listed, after_flag, after_id, parse_zone}
use Rattle.frames.specs.Frame.{order, zeros, version, sized, field, frame}
use Rattle.frames.specs.Fields.{scan, listing}
use Rattle.frames.specs.Machine.{act, step, walk}
use Rattle.pieces.specs.Content.{parse_wall, piece_end, after_moment, parse_piece, parse_pieces, after_count as past_count, after_flag as past_flag}
use Rattle.pieces.specs.Content.{after_id as past_id, parse_head, after_head, parse_content, content_of, print_pieces, print}
use Rattle.field_checks.specs.Check.{pool_kept, new_id, zone_kept, text_kept, judged, concluded, conclusion, WellFormed}
use Rattle.field_checks.proofs.WellFormedLaws.{good-well-formed}
use Rattle.rewrite.specs.Preferred.{contents, content, print_fields, print_file, preferred}
use Rattle.preferred_fields.specs.Field.{print_field}

-- 00 00 00 00; 00 05 01 03 55 54 43; field 1, of 40 bytes: 00 02 04, start of time, 1970-01-01T00:00Z by ticks, 4,344 hours later by
-- minutes since 1800, 4,416 hours later by ticks, end of time; 02 02 01 41
abbrev pub file : List ℕ
file = 0 ∷ 0 ∷ 0 ∷ 0 ∷ 0 ∷ 5 ∷ 1 ∷ 3 ∷ 85 ∷ 84 ∷ 67 ∷ 1 ∷ 40 ∷ 0 ∷ 2 ∷ 4 ∷ 0 ∷ 0 ∷ 48 ∷ 48 ∷ 2 ∷ 0 ∷ 0 ∷ 0 ∷ 0 ∷ 0 ∷ 0 ∷ 0 ∷ 0 ∷ 0 ∷ 50 ∷ 48 ∷ 128 ∷ 144 ∷ 225 ∷ 42 ∷ 0 ∷ 48 ∷ 48 ∷ 2 ∷ 0 ∷ 1 ∷ 30 ∷ 209 ∷ 120 ∷ 198 ∷ 192 ∷ 0 ∷ 0 ∷ 50 ∷ 48 ∷ 1 ∷ 0 ∷ 2 ∷ 2 ∷ 1 ∷ 65 ∷ []

-- the same by minutes since 1800, hours and hours: field 1 has 26 bytes
abbrev pub shorter : List ℕ
shorter = 0 ∷ 0 ∷ 0 ∷ 0 ∷ 0 ∷ 5 ∷ 1 ∷ 3 ∷ 85 ∷ 84 ∷ 67 ∷ 1 ∷ 26 ∷ 0 ∷ 2 ∷ 4 ∷ 0 ∷ 0 ∷ 48 ∷ 48 ∷ 224 ∷ 155 ∷ 209 ∷ 42 ∷ 0 ∷ 50 ∷ 48 ∷ 248 ∷ 33 ∷ 0 ∷ 48 ∷ 48 ∷ 192 ∷ 34 ∷ 0 ∷ 50 ∷ 48 ∷ 1 ∷ 0 ∷ 2 ∷ 2 ∷ 1 ∷ 65 ∷ []

-- every element is below 256
unfoldable pub small : List ℕ → Bool
small [] = true
small (b ∷ s) = both (ltb b 256) (small s)

pub small_bytes : (s : List ℕ) → small s ≡ true → Bytes s
unfolding small
small_bytes [] h = no-bytes
small_bytes (b ∷ s) h =
    cons-bytes b s (ltb-true b 256 (both_left (ltb b 256) (small s) h)) (small_bytes s (both_right (ltb b 256) (small s) h))

pub file-bytes : Bytes file
unfolding small
file-bytes = small_bytes file refl

pub file-well-formed : WellFormed file
unfolding conclusion walk iterate step act frame version zeros field order sized any_groups read_groups many counted all_strings ended concluded pool_kept judged chars text_sized zone_kept new_id text_kept among equal parse_zone after_id after_flag parse_listed after_count after_intervals after_end after_tail_byte zone_of behind parse_byte parse_name judge_name read_sum read_moment from_count fixed_from biased_of parse_interval after_start parse_details after_name after_wall judge_standard
file-well-formed = good-well-formed file refl

-- its preferred file
pub rewritten : preferred file ≡ shorter
unfolding contents content_of parse_content parse_head past_id past_flag past_count after_head parse_pieces parse_piece after_moment piece_end parse_wall parse_byte read_sum read_moment from_count fixed_from biased_of any_groups read_groups listing scan frame version zeros field sized order print print_pieces write_moment units_to write_groups fixed_bytes print_field print_fields print_file
rewritten = refl

-- of the same content, preferred itself, and well formed
pub same-content : content shorter ≡ content file
unfolding contents content_of parse_content parse_head past_id past_flag past_count after_head parse_pieces parse_piece after_moment piece_end parse_wall parse_byte read_sum read_moment from_count fixed_from biased_of any_groups read_groups listing scan frame version zeros field sized order
same-content = refl

pub again : preferred shorter ≡ shorter
unfolding contents content_of parse_content parse_head past_id past_flag past_count after_head parse_pieces parse_piece after_moment piece_end parse_wall parse_byte read_sum read_moment from_count fixed_from biased_of any_groups read_groups listing scan frame version zeros field sized order print print_pieces write_moment units_to write_groups fixed_bytes print_field print_fields print_file
again = refl

pub shorter-well-formed : WellFormed shorter
unfolding conclusion walk iterate step act frame version zeros field order sized any_groups read_groups many counted all_strings ended concluded pool_kept judged chars text_sized zone_kept new_id text_kept among equal parse_zone after_id after_flag parse_listed after_count after_intervals after_end after_tail_byte zone_of behind parse_byte parse_name judge_name read_sum read_moment from_count fixed_from biased_of parse_interval after_start parse_details after_name after_wall judge_standard
shorter-well-formed = good-well-formed shorter refl
