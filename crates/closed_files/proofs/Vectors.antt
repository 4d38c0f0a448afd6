-- Worked files, computed. Assumes nothing.
use Rattle.base.specs.declared.Refusal.TheVariants.{FieldOrder, TooShort, UnreadField}
use Rattle.std.specs.Prelude.{Err, Ok}
use mathlib.Core.Path.{◌≡◌, refl}
use mathlib.Core.List.{List, [], ◌∷◌, ◌++◌, map}
use Prim.Native.Nat.{ℕ}
use Rattle.base.specs.Equal.{equal}
use Rattle.base.specs.Parsed.{parse_byte, ended, many}
use Rattle.base.specs.Run.{iterate}
use Rattle.counts.specs.Fixed.{fixed_from}
use Rattle.counts.specs.Groups.{any_groups, read_groups, write_groups}
use Rattle.signed.specs.Instant.{biased_of}
use Rattle.offsets.specs.Offset.{read_sum}
use Rattle.transitions.specs.Transition.{read_moment, from_count}
use Rattle.utf8.specs.Utf8.{chars}
use Rattle.texts.specs.Text.{text_sized}
use Rattle.pool.specs.Pool.{all_strings, counted}
use Rattle.places.specs.Name.{judge_name, parse_name}
use Rattle.zones.specs.Parse.{zone_of, after_fixed_offset, parse_fixed, after_flag, after_id, parse_zone}
use Rattle.ids.specs.Ids.{among}
use Rattle.aliases.specs.Field.{parse_entries, all_entries, parse_aliases}
use Rattle.frames.specs.Frame.{order, zeros, version, sized, field, frame}
use Rattle.frames.specs.Machine.{act, step, walk}
use Rattle.frames.specs.Fields.{scan, listing}
use Rattle.field_checks.specs.Check.{pool_kept, new_id, zone_kept, aliases_kept, judged, concluded, conclusion}
use Rattle.sorting.specs.Sort.{insert, sort_of}
use Rattle.use_order.specs.Order.{mention, mention_all, keys_from, numbers_of, order_of, numbered_from}
use Rattle.mentions.specs.Walk.{behind_rule, behind_end, behind_start, behind_details, behind_offset, behind_interval_count, behind_id, numbered_names, location_names, before_names, before_pairs, before_locations, ahead_of, first_stage}
use Rattle.mentions.specs.Content.{parse_mention, content_from, numbers_in, print_mentions, print}
use Rattle.closed_files.specs.File.{mentions_in, chosen, write_texts, write_pool, write_field, closed_data, closed_fields, closed_file, closed, unread_id, first_unread, given_sized, left_sized, close_of, output_of}

-- version, and the pool A, B, C
abbrev front : List ℕ → List ℕ
front s = 0 ∷ 0 ∷ 0 ∷ 0 ∷ 0 ∷ 7 ∷ 3 ∷ 1 ∷ 65 ∷ 1 ∷ 66 ∷ 1 ∷ 67 ∷ s

-- equal strings under two numbers are two strings; ties by old place
pub most-used :
    closed (0 ∷ 0 ∷ 0 ∷ 0 ∷ 0 ∷ 9 ∷ 4 ∷ 1 ∷ 65 ∷ 1 ∷ 66 ∷ 1 ∷ 67 ∷ 1 ∷ 66 ∷ 1 ∷ 4 ∷ 0 ∷ 1 ∷ 48 ∷ 2 ∷ 1 ∷ 4 ∷ 1 ∷ 1 ∷ 48 ∷ 2 ∷ 3 ∷ 3 ∷ 1 ∷ 3 ∷ 2 ∷ [])
    ≡ 0 ∷ 0 ∷ 0 ∷ 0 ∷ 0 ∷ 9 ∷ 4 ∷ 1 ∷ 67 ∷ 1 ∷ 65 ∷ 1 ∷ 66 ∷ 1 ∷ 66 ∷ 1 ∷ 4 ∷ 1 ∷ 1 ∷ 48 ∷ 0 ∷ 1 ∷ 4 ∷ 2 ∷ 1 ∷ 48 ∷ 0 ∷ 3 ∷ 3 ∷ 1 ∷ 3 ∷ 0 ∷ []
unfolding listing scan frame version zeros field sized order any_groups read_groups write_groups many counted all_strings ended chars text_sized insert sort_of mention mention_all keys_from numbers_of order_of numbered_from behind_rule behind_end behind_start behind_details behind_offset behind_interval_count behind_id numbered_names location_names before_names before_pairs before_locations ahead_of first_stage parse_mention content_from numbers_in print_mentions print mentions_in chosen write_texts write_pool write_field closed_data closed_fields closed_file parse_byte read_sum
most-used = refl

-- unused strings go, up to all; a fixed zone without a name stays without one; padded sizes are shortened
pub unused :
    map closed (front [] ∷ front (1 ∷ 3 ∷ 2 ∷ 1 ∷ 48 ∷ []) ∷ (0 ∷ 0 ∷ 0 ∷ 0 ∷ 0 ∷ 131 ∷ 0 ∷ 1 ∷ 1 ∷ 65 ∷ 1 ∷ 132 ∷ 128 ∷ 0 ∷ 0 ∷ 1 ∷ 48 ∷ 0 ∷ 2 ∷ 130 ∷ 0 ∷ 1 ∷ 88 ∷ []) ∷ [])
    ≡ (0 ∷ 0 ∷ 0 ∷ 0 ∷ 0 ∷ 1 ∷ 0 ∷ []) ∷ (0 ∷ 0 ∷ 0 ∷ 0 ∷ 0 ∷ 3 ∷ 1 ∷ 1 ∷ 67 ∷ 1 ∷ 3 ∷ 0 ∷ 1 ∷ 48 ∷ [])
    ∷ (0 ∷ 0 ∷ 0 ∷ 0 ∷ 0 ∷ 3 ∷ 1 ∷ 1 ∷ 65 ∷ 1 ∷ 4 ∷ 0 ∷ 1 ∷ 48 ∷ 0 ∷ 2 ∷ 2 ∷ 1 ∷ 88 ∷ []) ∷ []
unfolding listing scan frame version zeros field sized order any_groups read_groups write_groups many counted all_strings ended chars text_sized insert sort_of mention mention_all keys_from numbers_of order_of numbered_from behind_rule behind_end behind_start behind_details behind_offset behind_interval_count behind_id numbered_names location_names before_names before_pairs before_locations ahead_of first_stage parse_mention content_from numbers_in print_mentions print mentions_in chosen write_texts write_pool write_field closed_data closed_fields closed_file parse_byte read_sum
unused = refl

-- a zone with a tail comes back as it is, its end in ticks
abbrev tailed : List ℕ
tailed =
    front (1 ∷ 29 ∷ 0 ∷ 2 ∷ 1 ∷ 0 ∷ 0 ∷ 48 ∷ 48 ∷ 2 ∷ 0 ∷ 0 ∷ 0 ∷ 0 ∷ 0 ∷ 0 ∷ 0 ∷ 0 ∷ 1 ∷ 50 ∷ 1 ∷ 28 ∷ 10 ∷ 1 ∷ 50 ∷ 2 ∷ 28 ∷ 3 ∷ 1 ∷ 50 ∷ 50 ∷ [])

pub forms-kept : closed tailed ≡ tailed
unfolding listing scan frame version zeros field sized order any_groups read_groups write_groups many counted all_strings ended chars text_sized insert sort_of mention mention_all keys_from numbers_of order_of numbered_from behind_rule behind_end behind_start behind_details behind_offset behind_interval_count behind_id numbered_names location_names before_names before_pairs before_locations ahead_of first_stage parse_mention content_from numbers_in print_mentions print mentions_in chosen write_texts write_pool write_field closed_data closed_fields closed_file parse_byte read_sum fixed_from read_moment from_count biased_of
forms-kept = refl

-- 22 at the first field of ID 4, 5 or above 7, behind the whole check; then 15, with nothing written
pub refusals :
    map (λ f. close_of f []) (front (1 ∷ 4 ∷ 0 ∷ 1 ∷ 48 ∷ 0 ∷ 4 ∷ 0 ∷ []) ∷ front (1 ∷ 4 ∷ 0 ∷ 1 ∷ 48 ∷ 0 ∷ 4 ∷ 0 ∷ 0 ∷ []) ∷ front (3 ∷ 1 ∷ 0 ∷ 5 ∷ 0 ∷ 9 ∷ 0 ∷ []) ∷ front [] ∷ [])
    ≡ Err (UnreadField, 19) ∷ Err (FieldOrder, 21) ∷ Err (UnreadField, 16) ∷ Err (TooShort, 0) ∷ []
unfolding close_of given_sized unread_id first_unread conclusion walk iterate step act concluded pool_kept judged zone_kept new_id aliases_kept among equal parse_zone after_id after_flag parse_fixed after_fixed_offset zone_of parse_name judge_name parse_aliases all_entries parse_entries listing scan frame version zeros field sized order any_groups read_groups write_groups many counted all_strings ended chars text_sized insert sort_of mention mention_all keys_from numbers_of order_of numbered_from mentions_in chosen write_texts write_pool write_field closed_data closed_fields closed_file ahead_of first_stage parse_mention content_from numbers_in print_mentions print parse_byte read_sum
refusals = refl

-- the length, what is written, and the bytes behind it as found
pub written :
    (close_of (front []) (9 ∷ 9 ∷ 9 ∷ 9 ∷ 9 ∷ 9 ∷ 9 ∷ 8 ∷ []) ≡ Ok 7) × (output_of (front []) (9 ∷ 9 ∷ 9 ∷ 9 ∷ 9 ∷ 9 ∷ 9 ∷ 8 ∷ []) ≡ 0 ∷ 0 ∷ 0 ∷ 0 ∷ 0 ∷ 1 ∷ 0 ∷ 8 ∷ [])
unfolding close_of output_of given_sized left_sized first_unread unread_id conclusion walk iterate step act concluded pool_kept judged listing scan frame version zeros field sized order any_groups read_groups write_groups many counted all_strings ended chars text_sized insert sort_of mention mention_all keys_from numbers_of order_of numbered_from mentions_in chosen write_texts write_pool write_field closed_data closed_fields closed_file ahead_of first_stage parse_mention content_from numbers_in print_mentions print
written = (refl, refl)
