-- A file that meets the premises: two zones, a version text, an alias and a location, whose strings change places. Its closed file and the result are
-- computed. Assumes nothing.
use Rattle.std.specs.Prelude.{Ok}
use mathlib.Core.Path.{◌≡◌, refl}
use mathlib.Core.List.{List, [], ◌∷◌}
use Prim.Native.Nat.{ℕ}
use lib.ListN.{replicate}
use Rattle.base.specs.Bytes.{Bytes}
use Rattle.base.specs.Equal.{equal}
use Rattle.base.specs.Parsed.{parse_byte, ended, many}
use Rattle.base.specs.Run.{iterate}
use Rattle.signed.specs.Zigzag.{unzigzag_of}
use Rattle.counts.specs.Groups.{any_groups, read_groups, write_groups}
use Rattle.offsets.specs.Offset.{read_sum}
use Rattle.utf8.specs.Utf8.{chars}
use Rattle.texts.specs.Text.{text_sized}
use Rattle.pool.specs.Pool.{all_strings, counted}
use Rattle.places.specs.Name.{judge_name, parse_name}
use Rattle.zones.specs.Parse.{zone_of, after_fixed_offset, parse_fixed, after_flag, after_id, parse_zone}
use Rattle.locations.specs.Content.{within, judge_seconds, parse_seconds, parse_number, parse_country, parse_countries, parse_texts, parse_location}
use Rattle.locations.specs.Content.{all_locations, parse_locations}
use Rattle.ids.specs.Ids.{among}
use Rattle.aliases.specs.Dictionary.{keys}
use Rattle.aliases.specs.Field.{after_key, parse_entry, parse_entries, all_entries, parse_aliases}
use Rattle.frames.specs.Frame.{order, zeros, version, sized, field, frame}
use Rattle.frames.specs.Machine.{act, step, walk}
use Rattle.frames.specs.Fields.{scan, listing}
use Rattle.field_checks.specs.Check.{pool_kept, new_id, zone_kept, text_kept, aliases_kept, locations_kept, judged, concluded, conclusion}
use Rattle.sorting.specs.Sort.{insert, sort_of}
use Rattle.use_order.specs.Order.{mention, mention_all, keys_from, numbers_of, order_of, numbered_from}
use Rattle.mentions.specs.Walk.{behind_offset, behind_id, location_names, before_names, before_pairs, before_locations, ahead_of, first_stage}
use Rattle.mentions.specs.Content.{parse_mention, content_from, numbers_in, print_mentions, print}
use Rattle.closed_files.specs.File.{mentions_in, chosen, write_texts, write_pool, write_field, closed_data, closed_fields, closed_file, closed}
use Rattle.closed_files.specs.File.{unread_id, first_unread, given_sized, close_of}
use Rattle.rewrite.proofs.Example.{small, small_bytes}
use Rattle.closed_answers.specs.Closed.{Closes}
use Rattle.closed_answers.proofs.Closing.{closing-keeps}

-- the pool A, B, C, B; the zones A and B, both with the name C; the version text X; the key B (the second one) for C; a location with the texts A,
-- B, C, C
abbrev pub file : List ℕ
file =
    0 ∷ 0 ∷ 0 ∷ 0
    ∷ 0 ∷ 9 ∷ 4 ∷ 1 ∷ 65 ∷ 1 ∷ 66 ∷ 1 ∷ 67 ∷ 1 ∷ 66
    ∷ 1 ∷ 4 ∷ 0 ∷ 1 ∷ 48 ∷ 2
    ∷ 1 ∷ 4 ∷ 1 ∷ 1 ∷ 48 ∷ 2
    ∷ 2 ∷ 2 ∷ 1 ∷ 88
    ∷ 3 ∷ 3 ∷ 1 ∷ 3 ∷ 2
    ∷ 6 ∷ 7 ∷ 1 ∷ 0 ∷ 0 ∷ 0 ∷ 1 ∷ 2 ∷ 2 ∷ []

file-bytes : Bytes file
unfolding small
file-bytes = small_bytes file refl

-- C has five mentions, A and B two each, the second B one
pub closed_is :
    closed file
    ≡ 0 ∷ 0 ∷ 0 ∷ 0
    ∷ 0 ∷ 9 ∷ 4 ∷ 1 ∷ 67 ∷ 1 ∷ 65 ∷ 1 ∷ 66 ∷ 1 ∷ 66
    ∷ 1 ∷ 4 ∷ 1 ∷ 1 ∷ 48 ∷ 0
    ∷ 1 ∷ 4 ∷ 2 ∷ 1 ∷ 48 ∷ 0
    ∷ 2 ∷ 2 ∷ 1 ∷ 88
    ∷ 3 ∷ 3 ∷ 1 ∷ 3 ∷ 0
    ∷ 6 ∷ 7 ∷ 1 ∷ 0 ∷ 0 ∷ 1 ∷ 2 ∷ 0 ∷ 0 ∷ []
unfolding listing scan frame version zeros field sized order any_groups read_groups write_groups many counted all_strings ended chars text_sized insert sort_of mention mention_all keys_from numbers_of order_of numbered_from behind_offset behind_id location_names before_names before_pairs before_locations ahead_of first_stage parse_mention content_from numbers_in print_mentions print mentions_in chosen write_texts write_pool write_field closed_data closed_fields closed_file parse_byte read_sum
closed_is = refl

-- to an output that is just large enough
abbrev pub room : List ℕ
room = replicate 45 0

sized-so : close_of file room ≡ Ok 45
unfolding close_of given_sized unread_id first_unread conclusion walk iterate step act concluded pool_kept judged zone_kept new_id text_kept aliases_kept locations_kept among equal parse_zone after_id after_flag parse_fixed after_fixed_offset zone_of parse_name judge_name parse_aliases all_entries parse_entries parse_entry after_key keys parse_locations all_locations parse_location parse_texts parse_countries parse_country parse_number parse_seconds judge_seconds within unzigzag_of listing scan frame version zeros field sized order any_groups read_groups write_groups many counted all_strings ended chars text_sized insert sort_of mention mention_all keys_from numbers_of order_of numbered_from behind_offset behind_id location_names before_names before_pairs before_locations ahead_of first_stage parse_mention content_from numbers_in print_mentions print mentions_in chosen write_texts write_pool write_field closed_data closed_fields closed_file parse_byte read_sum
sized-so = refl

pub kept : Closes file room 45
kept = closing-keeps file room 45 file-bytes sized-so
